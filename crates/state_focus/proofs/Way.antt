-- The way of the focus through the grafts and to the active descendant, one law for each way on and out of the code. Assumes nothing.
use mathlib.Core.Bool.{Bool, true, false}
use mathlib.Core.List.{List}
use mathlib.Core.Path.{◌≡◌, sym, ◌∙◌}
use Prim.Native.Nat.{ℕ, suc, ◌+◌, ◌-◌, ◌/◌, ◌%◌, ◌≤◌, ◌<◌}
use native.Mathlib.Numerals.{add-one}
use native.Mathlib.Omega.{arith}
use lib.Dec.{ltb}
use borrow.Author.Tests.{lt-ltb, le-ltb, eq-eqb, ne_eqb}
use Rattle.std.specs.Prelude.{if◌then◌else◌, Option, None, Some}
use Rattle.base.specs.Bytes.{bit}
use Rattle.base.specs.Search.{First}
use Rattle.base.proofs.Bytes.{length_list_of}
use Rattle.ids.specs.Ids.{ROOT}
use Rattle.ids.specs.declared.NodeId.{NodeId}
use Rattle.ids.specs.declared.FullNodeId.{FullNodeId}
use Rattle.record.specs.Batch.{graft?, active_descendant?}
use Rattle.state.specs.State.{NodeState, Forest, graft_at, subtree_of}
use Rattle.state.specs.declared.SubtreeState.{SubtreeState}
use Rattle.state.specs.Focus.{through_grafts, effective_focus, or_active_descendant, state_focus}
use Rattle.state_array.specs.Layout.{host_of, word, ACTIVE}
use Rattle.state_array.specs.View.{shape_in, body_in, node_in, entry_in, slots_of, trees_of, view}
use Rattle.state_array.specs.declared.ShapeRow.{ShapeRow}
use Rattle.state_lookup.specs.Lookup.{stands_at}
use Rattle.state_lookup.proofs.Found.{find_there, find_absent, present_slot}

-- ## The way through the grafts

-- Of room for m nodes k are looked at, and what is left leads from x to the goal. The search for x found slot i, where n slots hold nodes.
module _ (s : List ℕ) (x : FullNodeId) (m k : ℕ) {goal : Option FullNodeId} (inv : through_grafts (m - k) (view s).forest x ≡ goal) (more : k < m)
    {i n : ℕ} (slots : n ≡ slots_of s) (found : First (stands_at s x) (slots_of s) i) where
  -- the forest that the state shows
  abbrev f : Forest
  f = (view s).forest

  -- this node, and the room after it
  next : m - k ≡ suc (m - (k + 1))
  next = let e : m - k ≡ m - (k + 1) + 1 = omega arith in e ∙ add-one (m - (k + 1))

  -- a node that grafts nothing is the end
  ends_here : graft_at f.nodes x ≡ None → Some x ≡ goal
  unfolding through_grafts
  ends_here e = rw (next, e, through_grafts) at inv

  -- so is an absent one
  pub way_absent : n ≤ i → Some x ≡ goal
  unfolding graft_at
  way_absent h = ends_here (rw (find_absent s x i found (rw slots at h), graft_at))

  -- a present one, with its row and whether it is a graft
  module _ (h : i < n) {d : ShapeRow} (is : d ≡ shape_in s i) {g : Bool} (test : g ≡ bit 8 d.flags) where
    grafts : graft_at f.nodes x ≡ (if g then Some d.graft else None)
    unfolding graft_at node_in body_in graft?
    grafts = rw (find_there s x i found (rw slots at h), graft_at, ← is, ← test)

    pub way_plain : g ≡ false → Some x ≡ goal
    way_plain e = let z : g ≡ false = e in ends_here (grafts ∙ rw z)

    -- a graft, and its tree
    module _ (e : g ≡ true) (r : Option SubtreeState) (ends : r ≡ subtree_of (view s).forest d.graft) where
      entered : (elim r as (λ _. Option FullNodeId) [ None ↦ None | Some u ↦ through_grafts (m - (k + 1)) f u.focus ]) ≡ goal
      unfolding through_grafts
      entered = let z : g ≡ true = e in rw (next, grafts, z, through_grafts, ← ends) at inv

      -- one that does not exist, and one that does
      pub way_lost : r ≡ None → None ≡ goal
      way_lost q = rw q at entered

      pub way_on : {v : SubtreeState} → r ≡ Some v → through_grafts (m - (k + 1)) (view s).forest v.focus ≡ goal
      way_on q = rw q at entered

-- no room is left
pub way_spent : (s : List ℕ) (x : FullNodeId) (m k : ℕ) {goal : Option FullNodeId} → through_grafts (m - k) (view s).forest x ≡ goal → m ≤ k → None ≡ goal
unfolding through_grafts
way_spent s x m k inv h = let z : m - k ≡ 0 = omega arith in rw z at inv

-- ## The effective focus

module _ (s : List ℕ) {r : Option SubtreeState} (ends : r ≡ subtree_of (view s).forest ROOT) where
  -- without ROOT there is none
  pub effective_none : r ≡ None → None ≡ effective_focus (view s).forest
  unfolding effective_focus
  effective_none q = rw (sym ends ∙ q, effective_focus)

  -- it begins at ROOT's focus
  pub effective_from : {v : SubtreeState} → r ≡ Some v → {y : Option FullNodeId} → y ≡ through_grafts (trees_of s + 1) (view s).forest v.focus
      → y ≡ effective_focus (view s).forest
  unfolding effective_focus view
  effective_from q e = e ∙ rw (sym ends ∙ q, effective_focus, length_list_of (trees_of s) (entry_in s), add-one (trees_of s))

-- ## The active descendant

-- the search for x found slot i, where n slots hold nodes
module _ (s : List ℕ) (x : FullNodeId) {i n : ℕ} (slots : n ≡ slots_of s) (found : First (stands_at s x) (slots_of s) i) where
  abbrev ns : List NodeState
  ns = (view s).forest.nodes

  -- an absent node
  pub active_absent : n ≤ i → x ≡ or_active_descendant ns x
  unfolding or_active_descendant
  active_absent h = rw (find_absent s x i found (rw slots at h), or_active_descendant)

  module _ (h : i < n) {d : ShapeRow} (is : d ≡ shape_in s i) where
    -- a node that names none
    pub active_none : (d.flags / 4 % 2 ≡ 1 → ⊥) → x ≡ or_active_descendant ns x
    unfolding or_active_descendant node_in body_in active_descendant?
    active_none b = rw (find_there s x i found (rw slots at h), or_active_descendant, ← is, ne_eqb (d.flags / 4 % 2) 1 b)

    module _ (b : d.flags / 4 % 2 ≡ 1) {a : NodeId} (names : a.0 ≡ word s ACTIVE i) {k : ℕ}
        (other : First (stands_at s (record { tree = x.tree; node = a })) (slots_of s) k) where
      named : or_active_descendant ns x ≡ (if ltb k n then record { tree = x.tree; node = a } else x)
      unfolding or_active_descendant node_in body_in active_descendant?
      named =
          rw (find_there s x i found (rw slots at h), or_active_descendant, ← is, eq-eqb (d.flags / 4 % 2) 1 b, ← names, slots)
          (rw (present_slot s (record { tree = x.tree; node = a }) k other))

      -- one that is present, and one that is not
      pub active_there : k < n → record { tree = x.tree; node = a } ≡ or_active_descendant ns x
      active_there l = sym (named ∙ rw (lt-ltb k n l))

      pub active_lost : n ≤ k → x ≡ or_active_descendant ns x
      active_lost l = sym (named ∙ rw (le-ltb k n l))

-- ## Of a state

module _ (s : List ℕ) {h : ℕ} (host : h ≡ host_of s) where
  -- without host focus there is no focus
  pub unfocused : h ≡ 0 → None ≡ state_focus (view s)
  unfolding state_focus view
  unfocused e = rw (← host, eq-eqb h 0 e, state_focus)

  module _ {r : Option FullNodeId} (way : r ≡ effective_focus (view s).forest) (e : h ≡ 0 → ⊥) where
    -- none where there is no effective focus
    pub focus_none : r ≡ None → None ≡ state_focus (view s)
    unfolding state_focus view
    focus_none q = rw (← host, ne_eqb h 0 e, state_focus, sym way ∙ q)

    -- else its active descendant, if present
    pub focus_some : {x y : FullNodeId} → r ≡ Some x → y ≡ or_active_descendant (view s).forest.nodes x → Some y ≡ state_focus (view s)
    unfolding state_focus view
    focus_some q a = rw (← host, ne_eqb h 0 e, state_focus, sym way ∙ q, a)
