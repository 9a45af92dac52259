-- Laws of slots: the forest that columns show, and what the slot of an id says. Assumes nothing.
use mathlib.Core.Bool.{true}
use mathlib.Core.List.{List, [], ◌∷◌}
use mathlib.Core.Path.{◌≡◌, refl, sym, ap, ◌∙◌}
use Prim.Native.Nat.{ℕ, zero, suc, ◌<◌}
use native.Mathlib.Omega.{arith}
use lib.Dec.{ltb}
use lib.ListN.{length, get_or, length-map, get_or-map}
use borrow.Author.Tests.{lt-ltb}
use Rattle.std.specs.Prelude.{if◌then◌else◌, None, Some}
use Rattle.base.specs.Tests.{is_some, position}
use Rattle.base.specs.Search.{First}
use Rattle.base.proofs.Cases.{by_test, by_order}
use Rattle.base.proofs.Lists.{all_at}
use Rattle.base.proofs.Tests.{both, is_some_if, clash}
use Rattle.base.proofs.Bytes.{list_of_at}
use Rattle.base.proofs.Search.{ltb_suc}
use Rattle.ids.specs.Ids.{same_id, before}
use Rattle.ids.proofs.Ids.{same_id→≡, same_id_refl, before_apart}
use Rattle.ids.specs.declared.FullNodeId.{FullNodeId}
use Rattle.record.specs.Batch.{Batch}
use Rattle.state.specs.State.{NodeState, ids_of, Forest, find, present}
use Rattle.state.specs.Sound.{ascending}
use Rattle.state_array.specs.View.{id_in, link_in, link_of, node_in, slots_of, view}
use Rattle.update.specs.Words.{old}
use Rattle.calls.specs.Setting.{forest}
use Rattle.state_array.specs.Stored.{no_state}
use Rattle.calls.specs.Codes.{node_at, id_at, slot_at}
use Rattle.calls.proofs.notes.Positions.{first_unique, first_cong, position_first}

-- ## Lists of nodes

-- the node found is the one at its position
find_position : (ns : List NodeState) (x : FullNodeId) → find x ns ≡ (if ltb (position same_id (ids_of ns) x) (length ns) then Some (get_or ns (position same_id (ids_of ns) x) no_state) else None)
unfolding find ids_of
find_position [] x = refl
find_position (n ∷ ns) x =
    by_test (same_id x n.id) (λ t. rw (t, lt-ltb 0 (suc (length ns)) (omega arith)))
    (λ t. rw (t, ltb_suc (position same_id (ids_of ns) x) (length ns)) (find_position ns x))

-- ## The slot of an id

module _ (s : Forest) (x : FullNodeId) where
  -- it is what a search for the id answers
  pub slot_first : First (λ i. same_id x (id_at s i)) (length s.nodes) (slot_at s x)
  unfolding ids_of
  slot_first =
      first_cong _ _ (length s.nodes) (slot_at s x) (λ i l. ap (same_id x) (get_or-map (λ n. n.id) s.nodes i no_state))
      (rw (length-map s.nodes (λ (n : NodeState). n.id)) at (position_first same_id x no_state.id (ids_of s.nodes)))

  -- and what a search answers is it
  pub slot_search : (r : ℕ) → First (λ i. same_id x (id_at s i)) (length s.nodes) r → r ≡ slot_at s x
  slot_search r h = first_unique (λ i. same_id x (id_at s i)) (length s.nodes) r (slot_at s x) h slot_first

  -- the node found
  pub slot_found : find x s.nodes ≡ (if ltb (slot_at s x) (length s.nodes) then Some (node_at s (slot_at s x)) else None)
  slot_found = find_position s.nodes x

  pub slot_find : slot_at s x < length s.nodes → find x s.nodes ≡ Some (node_at s (slot_at s x))
  slot_find h = slot_found ∙ rw (lt-ltb (slot_at s x) (length s.nodes) h)

  -- a node is present if it has a slot
  pub slot_present : present s.nodes x ≡ ltb (slot_at s x) (length s.nodes)
  unfolding present
  slot_present = ap (λ o. is_some o) slot_found ∙ is_some_if (ltb (slot_at s x) (length s.nodes)) (node_at s (slot_at s x))

  pub slot_old : (b : Batch) → old s b x ≡ ltb (slot_at s x) (length s.nodes)
  unfolding old
  slot_old b = slot_present

  -- the id in its slot
  pub slot_id : slot_at s x < length s.nodes → id_at s (slot_at s x) ≡ x
  slot_id h = sym (same_id→≡ x (id_at s (slot_at s x)) (slot_first.hit h))

-- ## Slots of nodes in order

module _ (s : Forest) (up : ascending s.nodes ≡ true) (i : ℕ) (h : i < length s.nodes) where
  -- the slot of the id in a slot is that slot
  pub slot_self : slot_at s (id_at s i) ≡ i
  unfolding ascending
  slot_self = sym (slot_search s (id_at s i) i (record { within = omega arith; passed = λ k l. before_apart (id_at s k) (id_at s i) (pair s.nodes up k i l h); hit = λ _. same_id_refl (id_at s i) }))
    where
      pair : (ns : List NodeState) → ascending ns ≡ true → (k j : ℕ) → k < j → j < length ns → before (get_or ns k no_state).id (get_or ns j no_state).id ≡ true
      pair [] e k j l m = absurd (omega arith)
      pair (n ∷ ns) e k zero l m = absurd (omega arith)
      pair (n ∷ ns) e zero (suc j) l m = all_at (λ q. before n.id q.id) ns no_state (both e).0 j (omega arith)
      pair (n ∷ ns) e (suc k) (suc j) l m = pair ns (both e).1 k j (omega arith) (omega arith)

  -- so the node in a slot is found by its id
  pub find_at : find (id_at s i) s.nodes ≡ Some (node_at s i)
  find_at = slot_find s (id_at s i) (rw slot_self h) ∙ ap (λ j. Some (node_at s j)) slot_self

-- an id that stands in a slot is present
pub present_at : (s : Forest) (i : ℕ) → i < length s.nodes → present s.nodes (id_at s i) ≡ true
present_at s i h =
    slot_present s (id_at s i) ∙ lt-ltb (slot_at s (id_at s i)) (length s.nodes)
    (by_order i (slot_at s (id_at s i)) (λ l. absurd (clash ((slot_first s (id_at s i)).passed i l) (same_id_refl (id_at s i)))) (λ l. omega arith))

-- ## The forest that the words of a state show

module _ (state : List ℕ) where
  pub forest_node : (i : ℕ) → i < slots_of state → node_at (forest state) i ≡ node_in state i
  unfolding view
  forest_node i h = list_of_at (slots_of state) i (node_in state) no_state h

  pub forest_id : (i : ℕ) → i < slots_of state → id_at (forest state) i ≡ id_in state i
  unfolding node_in
  forest_id i h = ap (λ (k : NodeState). k.id) (forest_node i h)

  pub forest_link : (i : ℕ) → i < slots_of state → (node_at (forest state) i).parent_and_index ≡ link_of (link_in state i)
  unfolding node_in
  forest_link i h = ap (λ (k : NodeState). k.parent_and_index) (forest_node i h)
