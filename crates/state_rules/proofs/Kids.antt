-- Laws of what is met one step below a node, for each way out of `kid_at`. Assumes nothing.
use mathlib.Core.Bool.{Bool, true, false}
use mathlib.Core.List.{List, [], ◌∷◌}
use Rattle.std.specs.Prelude.{Option, None, Some}
use mathlib.Core.Path.{◌≡◌, refl, sym, ap, ◌∙◌}
use Prim.Native.Nat.{ℕ, zero, suc, ◌+◌, ◌≤◌, ◌<◌}
use native.Mathlib.Nat.{add-zero, zero-add}
use native.Mathlib.Numerals.{add-one}
use native.Mathlib.Omega.{arith}
use lib.ListN.{drop, drop_of_length-le}
use Rattle.base.specs.Bytes.{bit, list_of}
use Rattle.base.proofs.Tests.{call_true, call_false}
use Rattle.ids.specs.declared.TreeId.{TreeId}
use Rattle.ids.specs.declared.NodeId.{NodeId}
use Rattle.ids.specs.declared.FullNodeId.{FullNodeId}
use Rattle.state_array.specs.declared.ShapeRow.{ShapeRow}
use Rattle.record.specs.Batch.{graft?}
use Rattle.state_array.specs.Layout.{child}
use Rattle.state.specs.State.{subtree_of}
use Rattle.state.specs.declared.SubtreeState.{SubtreeState}
use Rattle.state.specs.Down.{Met, met_under, children_met, below}
use Rattle.state_array.specs.View.{graft_in, id_in, shape_in, children_in, body_in, node_in, view}
use Rattle.state_rules.specs.Parts.{below_in, KidSays}
use Rattle.state_rules.proofs.Grafts.{graft_none, graft_some}

-- a node number in a node's tree
abbrev in_tree : FullNodeId → NodeId → FullNodeId
in_tree p c = record { tree = p.tree; node = c }

-- past the last child there is none
children_past : (p : FullNodeId) (i n : ℕ) (f : ℕ → NodeId) (j : ℕ) → n ≤ j → drop j (children_met p i (list_of n f)) ≡ []
unfolding children_met list_of
children_past p i zero f zero h = refl
children_past p i zero f (suc j) h = refl
children_past p i (suc n) f zero h = absurd (omega arith)
children_past p i (suc n) f (suc j) h = children_past p (suc i) n (λ k. f (suc k)) j (omega arith)

-- the child at a place, and what comes after it
children_at : (p : FullNodeId) (i n : ℕ) (f : ℕ → NodeId) (j : ℕ) → j < n
    → drop j (children_met p i (list_of n f)) ≡ met_under p (i + j) (in_tree p (f j)) ∷ drop (suc j) (children_met p i (list_of n f))
unfolding children_met list_of
children_at p i zero f j h = absurd (omega arith)
children_at p i (suc n) f zero h = rw (add-zero i)
children_at p i (suc n) f (suc j) h =
    let next : i + suc j ≡ suc i + j = omega arith in
    rw next (children_at p (suc i) n (λ k. f (suc k)) j (omega arith))

-- what a graft meets
abbrev on_graft : FullNodeId → Option SubtreeState → List Met
on_graft x o = elim o [ None ↦ [] | Some v ↦ met_under x 0 v.root ∷ [] ]

-- a graft has one place
graft_past : (x : FullNodeId) (o : Option SubtreeState) (j : ℕ) → 0 < j → drop j (on_graft x o) ≡ []
graft_past x None j h = drop_of_length-le [] {i = j} (omega arith)
graft_past x (Some v) j h = drop_of_length-le (on_graft x (Some v)) h

-- the node in slot p, with its row and whether it is a graft, for each way out of `kid_at`
module _ (s : List ℕ) (p j : ℕ) {d : ShapeRow} (is : d ≡ shape_in s p) {g : Bool} (test : g ≡ bit 8 d.flags) where
  -- its id, and what is met below it by what it grafts
  abbrev x : FullNodeId
  x = id_in s p

  abbrev step : Option TreeId → List Met
  step o = elim o [ None ↦ children_met x 0 (children_in s x.node (shape_in s p)) | Some t ↦ on_graft x (subtree_of (view s).forest t) ]

  steps : below_in s p ≡ step (graft_in s p)
  unfolding below node_in body_in graft? graft_in
  steps = refl

  steps_graft : g ≡ true → below_in s p ≡ on_graft x (subtree_of (view s).forest d.graft)
  steps_graft e = steps ∙ rw (graft_some s p (rw is at (call_true test e)), step, is)

  steps_children : g ≡ false → below_in s p ≡ children_met x 0 (children_in s x.node d)
  steps_children e = steps ∙ rw (graft_none s p (rw is at (call_false test e)), step, is)

  -- a graft has one place
  pub kid_past : g ≡ true → 0 < j → KidSays (below_in s p) j x None
  unfolding KidSays
  kid_past e h = rw (steps_graft e) (graft_past x (subtree_of (view s).forest d.graft) j h)

  -- a graft whose tree does not exist, and one whose tree's root is met
  module _ (e : g ≡ true) {r : Option SubtreeState} (found : r ≡ subtree_of (view s).forest d.graft) where
    pub kid_unborn : r ≡ None → KidSays (below_in s p) j x None
    unfolding KidSays
    kid_unborn n = rw (steps_graft e ∙ ap (on_graft x) (sym found ∙ n)) (drop_of_length-le [] {i = j} (omega arith))

    pub kid_root : j ≤ 0 → {v : SubtreeState} → r ≡ Some v → KidSays (below_in s p) j x (Some v.root)
    unfolding KidSays
    kid_root h n = let z : j ≡ 0 = omega arith in rw (z, steps_graft e ∙ ap (on_graft x) (sym found ∙ n))

  -- past the last child
  pub kid_end : g ≡ false → d.child_count ≤ j → KidSays (below_in s p) j x None
  unfolding KidSays children_in
  kid_end e h = rw (steps_children e) (children_past x 0 d.child_count (λ i. record { 0 = child s x.node.0 (d.first_child + i) }) j h)

  -- the child entry, or the node itself
  pub kid_child : g ≡ false → j < d.child_count → {own : FullNodeId} {met : NodeId} → own ≡ x
      → met ≡ record { 0 = child s own.node.0 (d.first_child + j) } → KidSays (below_in s p) j x (Some (record { tree = own.tree; node = met }))
  unfolding KidSays children_in
  kid_child e h q r =
      rw (r, q, steps_children e)
      (children_at x 0 d.child_count (λ i. record { 0 = child s x.node.0 (d.first_child + i) }) j h ∙ rw (zero-add j, add-one j))
