-- Laws of the fate of a node: a law for each way out of the code's tests. Assumes nothing.
use mathlib.Core.Bool as bool
use mathlib.Core.Bool.{Bool, true, false, not}
use mathlib.Core.Path.{◌≡◌, sym, ap, ap₂, ◌∙◌}
use Prim.Native.Nat.{ℕ, suc, ◌≤◌, ◌<◌}
use native.Mathlib.Decide.{dec_lt}
use native.Mathlib.Omega.{arith}
use lib.Dec.{eqb, ltb, leb}
use borrow.Author.Tests.{eq-eqb, ne_eqb, lt-ltb, le-ltb, le-leb, lt-leb}
use Rattle.std.specs.Prelude.{if◌then◌else◌, Option, Some}
use Rattle.base.specs.Tests.{◌and◌, same_option}
use Rattle.ids.specs.Ids.{same_index, same_id}
use Rattle.ids.specs.declared.TreeIndex.{TreeIndex}
use Rattle.ids.specs.declared.FullNodeId.{FullNodeId}
use Rattle.record.specs.Batch.{Batch}
use Rattle.state.specs.State.{Forest}
use Rattle.update.specs.Words.{mine, listed, turn, named, with_tree_data, is_root}
use Rattle.update.specs.Gone.{goes_if, replaced, fate_here}
use Rattle.calls.specs.declared.notes.Scope.{Scope}
use Rattle.calls.specs.Setting.{root_in, Scoped}
use Rattle.calls.specs.Says.{turn_mark, naming_mark}
use Rattle.calls.proofs.notes.Marks.{turn_listed, naming_named}
use Rattle.calls.specs.Fates.{fate_code, ReplacedIs, FateHereIs}

-- a number is 0 unless it is above
not_above : (k : ℕ) → eqb k 0 ≡ not (ltb 0 k)
not_above k = go (dec_lt 0 k)
  where
    go : Dec (0 < k) → eqb k 0 ≡ not (ltb 0 k)
    go (yes h) = rw (lt-ltb 0 k h) (ne_eqb k 0 (λ e. omega arith))
    go (no h) = rw (le-ltb 0 k (omega arith)) (eq-eqb k 0 (omega arith))

-- one tree number
pub same_index_lem : (i j : TreeIndex) → i.0 ≡ j.0 → same_index i j ≡ true
unfolding same_index
same_index_lem i j e = eq-eqb i.0 j.0 e

-- another tree number
pub other_index : (i j : TreeIndex) → (i.0 ≡ j.0 → ⊥) → same_index i j ≡ false
unfolding same_index
other_index i j h = ne_eqb i.0 j.0 h

-- ## What a scope says

module _ (s : Forest) (b : Batch) (scope : Scope) (scoped : Scoped s b scope) (x : FullNodeId) where
  -- whether x is of the batch's tree
  mine_is : eqb x.tree.0 scope.tree.0 ≡ mine s b x
  unfolding mine same_index
  mine_is = rw scoped.tree

  -- it is
  pub mine_true : x.tree.0 ≡ scope.tree.0 → mine s b x ≡ true
  mine_true e = sym mine_is ∙ eq-eqb x.tree.0 scope.tree.0 e

  -- it is not
  pub mine_false : (x.tree.0 ≡ scope.tree.0 → ⊥) → mine s b x ≡ false
  mine_false h = sym mine_is ∙ ne_eqb x.tree.0 scope.tree.0 h

  -- whether x is the root as the batch leaves it
  root_is : same_option same_id (root_in scope) (Some x) ≡ is_root s b x
  unfolding is_root
  root_is = ap (λ (o : Option FullNodeId). same_option same_id o (Some x)) scoped.root

-- whether x is a root that is replaced
pub replaced_is : (scope : Scope) (x : FullNodeId) {turn naming : ℕ} {r : Bool} → r ≡ same_option same_id (root_in scope) (Some x)
    → ReplacedIs scope x turn naming (eqb x.tree.0 scope.tree.0 and scope.with_tree_data and not r and eqb turn 0 and eqb naming 0)
unfolding replaced
replaced_is scope x e s b scoped p q =
    rw (mine_is s b scope scoped x, scoped.tree_data, e ∙ root_is s b scope scoped x, p, q, not_above (turn_mark s b x), not_above (naming_mark s b x), ← turn_listed s b x, ← naming_named s b x)

-- ## In the batch's tree, under p

-- a node's mark is at most that of its listed parent, unless it is listed after it
not_later : (s : Forest) (b : Batch) (x p : FullNodeId) → listed s b p ≡ true
    → leb (turn_mark s b x) (turn_mark s b p) ≡ not (listed s b x and ltb (turn s b p) (turn s b x))
unfolding turn_mark ◌and◌
not_later s b x p e = rw e (go (listed s b x) (dec_lt (turn s b p) (turn s b x)))
  where
    go : (t : Bool) → Dec (turn s b p < turn s b x)
        → leb (if t then suc (turn s b x) else 0) (suc (turn s b p)) ≡ not (t and ltb (turn s b p) (turn s b x))
    go true (yes h) = rw (lt-ltb (turn s b p) (turn s b x) h) (lt-leb (suc (turn s b x)) (suc (turn s b p)) (omega arith))
    go true (no h) = rw (le-ltb (turn s b p) (turn s b x) (omega arith)) (le-leb (suc (turn s b x)) (suc (turn s b p)) (omega arith))
    go false h = le-leb 0 (suc (turn s b p)) (omega arith)

module _ (s : Forest) (b : Batch) (x : FullNodeId) {mark : ℕ} (none : mark ≤ 0) where
  -- a node without a mark is not named, or not listed
  not_named : mark ≡ naming_mark s b x → named s b x ≡ false
  not_named e = naming_named s b x ∙ rw (← e) (le-ltb 0 mark none)

  not_listed : mark ≡ turn_mark s b x → listed s b x ≡ false
  not_listed e = turn_listed s b x ∙ rw (← e) (le-ltb 0 mark none)

-- whether tree data names x
as_root : (s : Forest) (b : Batch) (scope : Scope) → Scoped s b scope → (x : FullNodeId) {r v : Bool} → r ≡ same_option same_id (root_in scope) (Some x)
    → bool.◌&&◌ scope.with_tree_data r ≡ v → (with_tree_data s b and is_root s b x) ≡ v
unfolding ◌and◌
as_root s b scope scoped x root e = ap₂ bool.◌&&◌ (sym scoped.tree_data) (sym (root ∙ root_is s b scope scoped x)) ∙ e

module _ (scope : Scope) (x p : FullNodeId) {turn naming parentTurn : ℕ} where
  -- under a node of another tree
  pub here_top : {t : Bool} {r : ℕ} → (p.tree.0 ≡ scope.tree.0 → ⊥) → ReplacedIs scope x turn naming t → r ≡ fate_code (goes_if t)
      → FateHereIs scope x p turn naming parentTurn r
  unfolding fate_here
  here_top h goes e s b scoped own name parent = e ∙ ap (λ (t : Bool). fate_code (goes_if t)) (goes s b scoped own name) ∙ rw (mine_false s b scope scoped p h)

  module _ (inside : p.tree.0 ≡ scope.tree.0) where
    -- a node that is named
    pub here_named : 0 < naming → FateHereIs scope x p turn naming parentTurn 0
    unfolding fate_here fate_code
    here_named h s b scoped own name parent = rw (mine_true s b scope scoped p inside, naming_named s b x, ← name, lt-ltb 0 naming h)

    module _ (unnamed : naming ≤ 0) where
      -- under a listed parent
      pub here_listed : {r : ℕ} → 0 < parentTurn → r ≡ fate_code (goes_if (leb turn parentTurn)) → FateHereIs scope x p turn naming parentTurn r
      unfolding fate_here
      here_listed h e s b scoped own name parent =
          let parent_listed : listed s b p ≡ true = turn_listed s b p ∙ rw (← parent) (lt-ltb 0 parentTurn h) in
          e ∙ rw (mine_true s b scope scoped p inside, not_named s b x unnamed name, parent_listed, own, parent, not_later s b x p parent_listed)

      module _ (unlisted : parentTurn ≤ 0) {r : Bool} (root : r ≡ same_option same_id (root_in scope) (Some x)) where
        -- tree data names x, or not
        pub here_root : bool.◌&&◌ scope.with_tree_data r ≡ true → FateHereIs scope x p turn naming parentTurn 0
        unfolding fate_here fate_code
        here_root e s b scoped own name parent =
            rw (mine_true s b scope scoped p inside, not_named s b x unnamed name, not_listed s b p unlisted parent, as_root s b scope scoped x root e)

        pub here_below : bool.◌&&◌ scope.with_tree_data r ≡ false → FateHereIs scope x p turn naming parentTurn 2
        unfolding fate_here fate_code
        here_below e s b scoped own name parent =
            rw (mine_true s b scope scoped p inside, not_named s b x unnamed name, not_listed s b p unlisted parent, as_root s b scope scoped x root e)
