-- Rules 9 to 12, by slot and by tree number. Assumes nothing.
use mathlib.Core.Bool.{Bool, true, false, ◌||◌}
use mathlib.Core.List.{List, [], ◌∷◌}
use mathlib.Core.Path.{◌≡◌, refl, sym, ap, ◌∙◌}
use Prim.Native.Nat.{ℕ, zero, suc, ◌+◌, ◌≤◌, ◌<◌}
use native.Mathlib.Numerals.{add-one}
use lib.ListN.{drop}
use Rattle.std.specs.Prelude.{if◌then◌else◌, Option, None, Some}
use Rattle.base.specs.Tests.{any, has}
use Rattle.base.specs.Bytes.{bit, list_of}
use Rattle.base.specs.Search.{First}
use Rattle.base.proofs.Bytes.{list_of_more}
use Rattle.base.proofs.Lists.{any_append}
use Rattle.base.proofs.Tests.{call_true, call_false, not_true, not_false}
use Rattle.ids.specs.Ids.{same_tree}
use Rattle.ids.specs.declared.TreeId.{TreeId}
use Rattle.ids.specs.declared.FullNodeId.{FullNodeId}
use Rattle.record.specs.Batch.{graft?}
use Rattle.reasons.specs.Reasons.{Regraft, Broken, grafted_twice}
use Rattle.reasons.specs.Shape.{graft_twice_from, tree_twice_from, unrooted_from}
use Rattle.reasons_why.specs.Why.{why_broken}
use Rattle.reasons_why.specs.declared.Why.{Why}
use Rattle.state.specs.State.{NodeState, TreeEntry, holder}
use Rattle.state_array.specs.declared.ShapeRow.{ShapeRow}
use Rattle.state_array.specs.declared.TreeRow.{TreeRow}
use Rattle.state_array.specs.View.{graft_in, id_in, shape_in, body_in, node_in, tree_in, entry_in, slots_of, trees_of, view}
use Rattle.state_rules.specs.Parts.{grafts_tree, rooted_in}
use Rattle.state_rules.proofs.Grafts.{graft_none, graft_some, grafts_at}
use Rattle.state_rules.proofs.Trees.{old_id, old_found, new_found, rooted_row}
use Rattle.reasons_shape.specs.Rules.{rule_why, tree_why}
use Rattle.base.proofs.Rest.{list_from, list_past, Rest, rest_start, rest_more}
use Rattle.reasons_shape.proofs.Slots.{nodes, nodes_at, nodes_past}

-- ## Rule 9

-- the holder of a tree among the node in slot j and others
module _ (s : List ℕ) (t : TreeId) (j : ℕ) (ns : List NodeState) where
  abbrev first_or : Bool → Option FullNodeId
  first_or b = elim (if b then Some (node_in s j).id else None) as (λ _. Option FullNodeId) [ None ↦ holder ns t | Some y ↦ Some y ]

  holder_cons : holder (node_in s j ∷ ns) t ≡ first_or (grafts_tree s t j)
  unfolding holder
  holder_cons = ap first_or (grafts_at s t j)

  holder_here : grafts_tree s t j ≡ true → holder (node_in s j ∷ ns) t ≡ Some (id_in s j)
  unfolding node_in
  holder_here e = holder_cons ∙ rw e

  holder_later : grafts_tree s t j ≡ false → holder (node_in s j ∷ ns) t ≡ holder ns t
  holder_later e = holder_cons ∙ rw e

-- a holder from slot j on is one from slot i on
pub record Holding (s : List ℕ) (t : TreeId) (i j : ℕ) : Type 0 where
  pub same : holder (drop j (nodes s)) t ≡ holder (drop i (nodes s)) t

pub holding_start : {s : List ℕ} {t : TreeId} {i : ℕ} → Holding s t i i
holding_start = record { same = refl }

module _ {s : List ℕ} {t : TreeId} {i j n : ℕ} (g : Holding s t i j) (slots : n ≡ slots_of s) where
  pub holding_end : n ≤ j → None ≡ holder (drop i (view s).forest.nodes) t
  unfolding holder
  holding_end h = rw (nodes_past s j (rw slots at h)) at g.same

  module _ (l : j < n) {r : Bool} (test : r ≡ grafts_tree s t j) where
    pub holding_here : r ≡ true → {y : Option FullNodeId} → y ≡ Some (id_in s j) → y ≡ holder (drop i (view s).forest.nodes) t
    holding_here h is = is ∙ sym (holder_here s t j (drop (j + 1) (nodes s)) (sym test ∙ h)) ∙ rw (nodes_at s j (rw slots at l)) at g.same

    pub holding_more : r ≡ false → Holding s t i (j + 1)
    holding_more h = record { same = sym (holder_later s t j (drop (j + 1) (nodes s)) (sym test ∙ h)) ∙ rw (nodes_at s j (rw slots at l)) at g.same }

-- what the node in slot i grafts
graft_at_lem : (s : List ℕ) (i : ℕ) → graft? (node_in s i).body ≡ graft_in s i
unfolding node_in body_in graft? graft_in
graft_at_lem s i = refl

-- the rule's answer
abbrev pub regraft : Option Regraft → Option Broken
regraft o = elim o [ None ↦ None | Some z ↦ Some (grafted_twice z) ]

-- no slot before i has a graft whose tree a later one grafts too
pub record Regrafting (s : List ℕ) (i : ℕ) : Type 0 where
  pub rest : Rest graft_twice_from (nodes s) i

pub regrafting_start : {s : List ℕ} → Regrafting s 0
regrafting_start = record { rest = rest_start }

module _ {s : List ℕ} {i n : ℕ} (g : Regrafting s i) (slots : n ≡ slots_of s) where
  pub regrafting_end : {k : ℕ} {w : Why} → n ≤ i → w ≡ rule_why k 0 → w ≡ why_broken k (regraft (graft_twice_from 0 (view s).forest.nodes))
  unfolding why_broken graft_twice_from
  regrafting_end {k} h e = e ∙ ap (λ o. why_broken k (regraft o)) (rw (nodes_past s i (rw slots at h)) at g.rest.same)

  module _ (l : i < n) {d : ShapeRow} (is : d ≡ shape_in s i) {b : Bool} (flag : b ≡ bit 8 d.flags) where
    -- no graft
    pub regrafting_plain : b ≡ false → Regrafting s (i + 1)
    unfolding graft_twice_from
    regrafting_plain h =
        let plain : graft? (node_in s i).body ≡ None = graft_at_lem s i ∙ graft_none s i (rw is at (call_false flag h)) in
        record { rest = rest_more g.rest (nodes_at s i (rw slots at l)) (rw (plain, graft_twice_from)) }

    grafts : b ≡ true → graft? (node_in s i).body ≡ Some d.graft
    grafts h = graft_at_lem s i ∙ graft_some s i (rw is at (call_true flag h)) ∙ rw is

    module _ (h : b ≡ true) (o : Option FullNodeId) (later : o ≡ holder (drop (i + 1) (view s).forest.nodes) d.graft) where
      -- a graft alone
      pub regrafting_alone : o ≡ None → Regrafting s (i + 1)
      unfolding graft_twice_from
      regrafting_alone q =
          record { rest = rest_more g.rest (nodes_at s i (rw slots at l)) (rw (grafts h, graft_twice_from, sym later ∙ q)) }

      -- one of two
      pub regrafting_fails : {k : ℕ} {w : Why} {y : FullNodeId} → o ≡ Some y → {x : Option FullNodeId} → x ≡ Some (id_in s i) → {t : TreeId} → t ≡ d.graft
          → w ≡ record { number = k; rule = 9; place = i; other = 0; tree = t; node = x; by = None; also = Some y }
          → w ≡ why_broken k (regraft (graft_twice_from 0 (view s).forest.nodes))
      unfolding why_broken graft_twice_from node_in
      regrafting_fails {k} q here tree e =
          e ∙ rw (here, tree)
          (ap (λ z. why_broken k (regraft z)) (rw (nodes_at s i (rw slots at l), grafts h, graft_twice_from, sym later ∙ q) at g.rest.same))

-- ## Rules 11 and 12

module _ (s : List ℕ) where
  -- the table of trees
  abbrev table : List TreeEntry
  table = (view s).forest.trees

  table_at : (k : ℕ) → k < trees_of s → drop k table ≡ entry_in s k ∷ drop (k + 1) table
  unfolding view
  table_at k h = list_from (trees_of s) (entry_in s) k h

  table_past : (k : ℕ) → trees_of s ≤ k → drop k table ≡ []
  unfolding view
  table_past k h = list_past (trees_of s) (entry_in s) k h

  -- the tree ids before number k, the last first
  unfoldable pub earlier : ℕ → List TreeId
  earlier zero = []
  earlier (suc k) = (tree_in s k).id ∷ earlier k

  or_last : (a b : Bool) → (a || b) ≡ (b || (a || false))
  or_last true true = refl
  or_last true false = refl
  or_last false true = refl
  or_last false false = refl

  earlier_any : (p : TreeId → Bool) (k : ℕ) → any p (earlier k) ≡ any p (list_of k (λ i. (tree_in s i).id))
  unfolding earlier
  earlier_any p zero = unfold list_of in refl
  earlier_any p (suc k) =
      rw (← add-one k, list_of_more k (λ i. (tree_in s i).id), any_append p (list_of k (λ i. (tree_in s i).id)) ((tree_in s k).id ∷ []), earlier_any p k)
      (or_last (p (tree_in s k).id) (any p (list_of k (λ i. (tree_in s i).id))))

-- a rule and a tree, by the tree's row
pub tree_says : (s : List ℕ) (number rule k : ℕ) {t : TreeRow} → t ≡ tree_in s k
    → record { number = number; rule = rule; place = k; other = 0; tree = t.id; node = None; by = None; also = None } ≡ tree_why s number rule k
unfolding tree_why
tree_says s number rule k is = rw is

-- the numbers before k have ids of their own
pub record Single (s : List ℕ) (k : ℕ) : Type 0 where
  pub same : tree_twice_from k (earlier s k) (drop k (table s)) ≡ tree_twice_from 0 [] (table s)

pub single_start : {s : List ℕ} → Single s 0
unfolding earlier
single_start = record { same = refl }

module _ {s : List ℕ} {k m : ℕ} (g : Single s k) (trees : m ≡ trees_of s) where
  pub single_end : {number : ℕ} {w : Why} → m ≤ k → w ≡ rule_why number 0 → w ≡ why_broken number (tree_twice_from 0 [] (view s).forest.trees)
  unfolding why_broken tree_twice_from
  single_end {number} h e = e ∙ ap (why_broken number) (rw (table_past s k (rw trees at h)) at g.same)

  module _ (l : k < m) {t : TreeRow} (is : t ≡ tree_in s k) {r : ℕ} (first : First (λ i. same_tree t.id (tree_in s i).id) (trees_of s) r) where
    known : has same_tree (earlier s k) (entry_in s k).id ≡ old_id s k
    unfolding entry_in old_id
    known = earlier_any s (same_tree (tree_in s k).id) k

    pub single_more : k ≤ r → Single s (k + 1)
    unfolding tree_twice_from earlier entry_in
    single_more h =
        let new : has same_tree (earlier s k) (tree_in s k).id ≡ false = known ∙ not_true (new_found s k is first trees l h) in
        record { same = ap (λ j. tree_twice_from j (earlier s j) (drop (k + 1) (table s))) (add-one k) ∙ rw (table_at s k (rw trees at l), new) at g.same }

    pub single_fails : (number : ℕ) {w : Why} → r < k → w ≡ tree_why s number 11 k → w ≡ why_broken number (tree_twice_from 0 [] (view s).forest.trees)
    unfolding why_broken tree_twice_from tree_why entry_in
    single_fails number h e = e ∙ ap (why_broken number) (rw (table_at s k (rw trees at l), known ∙ not_false (old_found s k is first trees l h)) at g.same)

-- the trees before number k are rooted
pub record Rooting (s : List ℕ) (k : ℕ) : Type 0 where
  pub rest : Rest (unrooted_from (nodes s)) (table s) k

pub rooting_start : {s : List ℕ} → Rooting s 0
rooting_start = record { rest = rest_start }

module _ {s : List ℕ} {k m : ℕ} (g : Rooting s k) (trees : m ≡ trees_of s) where
  pub rooting_end : {number : ℕ} {w : Why} → m ≤ k → w ≡ rule_why number 0 → w ≡ why_broken number (unrooted_from (view s).forest.nodes 0 (view s).forest.trees)
  unfolding why_broken unrooted_from
  rooting_end {number} h e = e ∙ ap (why_broken number) (rw (table_past s k (rw trees at h)) at g.rest.same)

  module _ (l : k < m) {r : Bool} (test : r ≡ rooted_in s k) where
    pub rooting_more : r ≡ true → Rooting s (k + 1)
    unfolding unrooted_from
    rooting_more h = record { rest = rest_more g.rest (table_at s k (rw trees at l)) (rw (rooted_row s k ∙ call_true test h)) }

    pub rooting_fails : (number : ℕ) {w : Why} → r ≡ false → w ≡ tree_why s number 12 k → w ≡ why_broken number (unrooted_from (view s).forest.nodes 0 (view s).forest.trees)
    unfolding why_broken unrooted_from tree_why entry_in
    rooting_fails number h e =
        e ∙ ap (why_broken number) (rw (table_at s k (rw trees at l), rooted_row s k ∙ call_false test h) at g.rest.same)
