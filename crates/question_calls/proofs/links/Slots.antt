-- Laws of slots: in a sound state each slot holds one node, that is found by its id, and a search finds the slot of a present node.
-- Assumes nothing.
use mathlib.Core.Bool.{true}
use mathlib.Core.List.{List}
use Rattle.std.specs.Prelude.{None, Some}
use Rattle.std.proofs.lemmas.Option.{none-some, same_Some}
use mathlib.Core.Path.{◌≡◌, sym, ap, ◌∙◌}
use Prim.Native.Nat.{ℕ, ◌≤◌, ◌<◌}
use native.Mathlib.Decide.{dec_lt}
use native.Mathlib.Omega.{arith}
use borrow.Author.Tests.{lt-ltb, le-ltb, ltb-true}
use Rattle.base.specs.Tests.{is_some}
use Rattle.base.specs.Search.{First}
use Rattle.base.proofs.Tests.{clash}
use Rattle.ids.proofs.Ids.{same_id→≡, same_id_refl}
use Rattle.ids.specs.declared.FullNodeId.{FullNodeId}
use Rattle.state.specs.State.{find, present}
use Rattle.state.proofs.Sound.{Shape, shape_parts, sound_parts}
use Rattle.state_array.specs.View.{id_in, node_in, slots_of, view}
use Rattle.state_lookup.specs.Lookup.{ascend, stands_at, in_slot, SlotOf}
use Rattle.state_lookup.proofs.Order.{stands_first, ordered_is}
use Rattle.state_lookup.proofs.Found.{find_there, present_slot}
use Rattle.question_calls.specs.Slots.{Sound, slot_id}

module _ (s : List ℕ) (r : ℕ) where
  -- ## The node in a slot

  pub slot_id_some : r < slots_of s → slot_id s r ≡ Some (id_in s r)
  unfolding slot_id
  slot_id_some h = rw (lt-ltb r (slots_of s) h)

  pub slot_id_none : slots_of s ≤ r → slot_id s r ≡ None
  unfolding slot_id
  slot_id_none h = rw (le-ltb r (slots_of s) h)

  -- a slot that holds a node is one of the slots
  pub slot_id_at : (x : FullNodeId) → slot_id s r ≡ Some x → (r < slots_of s) × (id_in s r ≡ x)
  slot_id_at x e = go (dec_lt r (slots_of s))
    where
      go : Dec (r < slots_of s) → (r < slots_of s) × (id_in s r ≡ x)
      go (yes h) = (h, same_Some (id_in s r) x (sym (slot_id_some h) ∙ e))
      go (no h) = absurd (none-some x (sym (slot_id_none (omega arith)) ∙ e))

-- ## The slots of a sound state

module _ (s : List ℕ) (h : Sound s) where
  pub slot_shape : Shape (view s).forest
  slot_shape = shape_parts (view s).forest (sound_parts (view s).forest h).shape

  in_order : ascend (slots_of s) (id_in s) ≡ true
  in_order = sym (ordered_is s) ∙ slot_shape.ordered

  -- a node stands in its slot alone
  pub slot_first : (i : ℕ) → i < slots_of s → First (stands_at s (id_in s i)) (slots_of s) i
  unfolding in_slot
  slot_first i l = stands_first (id_in s) (slots_of s) in_order (id_in s i) i l (same_id_refl (id_in s i))

  -- the node in a slot is the node of its id
  pub slot_found : (i : ℕ) → i < slots_of s → find (id_in s i) (view s).forest.nodes ≡ Some (node_in s i)
  slot_found i l = find_there s (id_in s i) i (slot_first i l) l

  pub slot_present : (i : ℕ) → i < slots_of s → present (view s).forest.nodes (id_in s i) ≡ true
  unfolding present
  slot_present i l = ap is_some (slot_found i l)

  apart : (i k : ℕ) → i < k → k < slots_of s → id_in s i ≡ id_in s k → ⊥
  apart i k l m e = clash ((slot_first k m).passed i l) (rw e (same_id_refl (id_in s k)))

  -- two slots hold two nodes
  pub slot_same : (i k : ℕ) → i < slots_of s → k < slots_of s → id_in s i ≡ id_in s k → i ≡ k
  slot_same i k l m e = go (dec_lt i k) (dec_lt k i)
    where
      go : Dec (i < k) → Dec (k < i) → i ≡ k
      go (yes a) b = absurd (apart i k a m e)
      go (no a) (yes b) = absurd (apart k i b l (sym e))
      go (no a) (no b) = omega arith

  -- ## What a search finds

  -- the slot of a node that is present
  pub slot_of_present : (x : FullNodeId) (r : ℕ) → SlotOf s x r → present (view s).forest.nodes x ≡ true → slot_id s r ≡ Some x
  slot_of_present x r found there =
      let l : r < slots_of s = ltb-true r (slots_of s) (sym (present_slot s x r (found.first in_order)) ∙ there) in
      slot_id_some s r l ∙ ap Some (sym (same_id→≡ x (id_in s r) (found.hit l)))
