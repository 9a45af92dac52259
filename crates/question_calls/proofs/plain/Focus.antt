-- The focused node by its slot, a law for each way out of the code. Assumes nothing.
use mathlib.Core.Bool.{Bool, true, false}
use mathlib.Core.List.{List}
use Rattle.std.proofs.lemmas.Option.{same_Some}
use mathlib.Core.Path.{◌≡◌, refl, sym, ap, ◌∙◌}
use Prim.Native.Nat.{ℕ, ◌/◌, ◌%◌, ◌≤◌, ◌<◌}
use native.Mathlib.Decide.{dec_lt}
use native.Mathlib.Omega.{arith}
use lib.Dec.{ltb}
use borrow.Author.Tests.{ltb-false, eq-eqb, ne_eqb}
use Rattle.std.specs.Prelude.{if◌then◌else◌, Option, None, Some}
use Rattle.base.specs.Tests.{same_option}
use Rattle.ids.specs.Ids.{same_id}
use Rattle.ids.proofs.Ids.{same_id→≡, same_id_refl}
use Rattle.ids.specs.declared.FullNodeId.{FullNodeId}
use Rattle.ids.specs.declared.NodeId.{NodeId}
use Rattle.record.specs.Batch.{active_descendant?}
use Rattle.state.specs.State.{NodeState, Forest, present}
use Rattle.state.specs.Focus.{effective_focus}
use Rattle.state.proofs.Sound.{focus_of_sound, sound_parts}
use Rattle.state_array.specs.Layout.{host_of, word, FLAGS, ACTIVE}
use Rattle.state_array.specs.View.{id_in, shape_in, body_in, node_in, slots_of, view}
use Rattle.state_lookup.specs.Lookup.{SlotOf}
use Rattle.state_lookup.proofs.Found.{present_slot}
use Rattle.state_lookup.proofs.Order.{ordered_is}
use Rattle.questions.specs.Filters.{active_descendant_at, focused_node, is_focused}
use Rattle.question_calls.specs.Slots.{Sound, slot_id}
use Rattle.question_calls.proofs.links.Slots.{slot_id_some, slot_id_none, slot_id_at, slot_shape, slot_found, slot_same, slot_of_present}
use Rattle.question_calls.specs.Plain.{seen_at, Focused}

-- ## The active descendant

-- a number of the same tree, if present
abbrev named : List NodeState → FullNodeId → Option NodeId → Option FullNodeId
named ns x o =
    elim o [ None ↦ None | Some a ↦ let y : FullNodeId = record { tree = x.tree; node = a } in if present ns y then Some y else None ]

module _ (s : List ℕ) (h : Sound s) where
  abbrev f : Forest
  f = (view s).forest

  -- the slot that a search finds holds the id, if it is present
  found_any : (y : FullNodeId) (r : ℕ) → SlotOf s y r → slot_id s r ≡ (if present f.nodes y then Some y else None)
  found_any y r found = go (present f.nodes y) refl
    where
      at : present f.nodes y ≡ ltb r (slots_of s)
      at = present_slot s y r (found.first (sym (ordered_is s) ∙ (slot_shape s h).ordered))

      go : (b : Bool) → present f.nodes y ≡ b → slot_id s r ≡ (if b then Some y else None)
      go true e = slot_of_present s h y r found e
      go false e = slot_id_none s r (omega (arith, ltb-false r (slots_of s) (sym at ∙ e)))

  module _ (i : ℕ) (there : i < slots_of s) (w : ℕ) (read : w ≡ word s FLAGS i) where
    active_named : active_descendant_at f.nodes (id_in s i) ≡ named f.nodes (id_in s i) (active_descendant? (body_in s i))
    unfolding active_descendant_at node_in
    active_named = rw (slot_found s h i there, active_descendant_at) refl

    -- a node that names none
    pub active_none : (n : ℕ) → (w / 4 % 2 ≡ 1 → ⊥) → n ≡ slots_of s → slot_id s n ≡ active_descendant_at f.nodes (id_in s i)
    unfolding body_in shape_in active_descendant?
    active_none n e q =
        slot_id_none s n (omega arith) ∙ sym (active_named ∙ rw (← read, ne_eqb (w / 4 % 2) 1 e) refl)

    -- one that names another
    pub active_found : (x : FullNodeId) (a : NodeId) (r : ℕ) → w / 4 % 2 ≡ 1 → x ≡ id_in s i → a.0 ≡ word s ACTIVE i
        → SlotOf s (record { tree = x.tree; node = a }) r → slot_id s r ≡ active_descendant_at f.nodes (id_in s i)
    unfolding body_in shape_in active_descendant?
    active_found x a r e p q found =
        found_any _ r found ∙ sym (active_named ∙ rw (← read, eq-eqb (w / 4 % 2) 1 e, ← q, ← p) refl)

-- ## The focused node

-- by the effective focus and its active descendant
abbrev by_descendant : FullNodeId → Option FullNodeId → Option FullNodeId
by_descendant e o = elim o [ None ↦ Some e | Some a ↦ if same_id a e then None else Some a ]

abbrev by_focus : List NodeState → Option FullNodeId → Option FullNodeId
by_focus ns o = elim o [ None ↦ None | Some e ↦ by_descendant e (active_descendant_at ns e) ]

module _ (s : List ℕ) (n : ℕ) (past : n ≡ slots_of s) where
  -- nothing is focused
  none_focused : focused_node (view s) ≡ None → Focused s n
  none_focused e = slot_id_none s n (omega arith) ∙ sym e

  -- without host focus
  pub host_lost : host_of s ≡ 0 → Focused s n
  unfolding focused_node view
  host_lost e = none_focused (rw (eq-eqb (host_of s) 0 e, focused_node) refl)

  module _ (host : host_of s ≡ 0 → ⊥) (r : Option FullNodeId) (effective : r ≡ effective_focus (view s).forest) where
    focused_by : focused_node (view s) ≡ by_focus (view s).forest.nodes r
    unfolding focused_node view
    focused_by = rw (ne_eqb (host_of s) 0 host, focused_node, effective) refl

    -- without an effective focus
    pub focus_none : r ≡ None → Focused s n
    focus_none q = none_focused (focused_by ∙ rw q refl)

    module _ (h : Sound s) (e : FullNodeId) (q : r ≡ Some e) (i : ℕ) (found : SlotOf s e i) where
      -- the effective focus is present
      pub focus_slot : (i < slots_of s) × (id_in s i ≡ e)
      focus_slot =
          let z = focus_of_sound (view s).forest (sound_parts (view s).forest h).focus in
          let same : e ≡ z.focus = same_Some e z.focus (sym (rw q refl) ∙ effective ∙ z.effective) in
          slot_id_at s i e (slot_of_present s h e i found (rw same z.there))

      focused_slot : focused_node (view s) ≡ by_descendant (id_in s i) (active_descendant_at (view s).forest.nodes (id_in s i))
      focused_slot = focused_by ∙ rw (q, focus_slot.1) refl

      module _ (a : ℕ) (active : i < slots_of s → slot_id s a ≡ active_descendant_at (view s).forest.nodes (id_in s i)) where
        by_slot : focused_node (view s) ≡ by_descendant (id_in s i) (slot_id s a)
        by_slot = focused_slot ∙ ap (by_descendant (id_in s i)) (sym (active focus_slot.0))

        -- it has no active descendant, is its own, or has another
        pub focus_own : slots_of s ≤ a → Focused s i
        focus_own l = slot_id_some s i focus_slot.0 ∙ sym (by_slot ∙ rw (slot_id_none s a l) refl)

        pub focus_self : a < slots_of s → a ≡ i → Focused s n
        focus_self l z = none_focused (by_slot ∙ rw (slot_id_some s a l, z, same_id_refl (id_in s i)) refl)

        pub focus_other : a < slots_of s → (a ≡ i → ⊥) → Focused s a
        focus_other l z = slot_id_some s a l ∙ sym (by_slot ∙ rw (slot_id_some s a l, differ (same_id (id_in s a) (id_in s i)) refl) refl)
          where
            differ : (b : Bool) → same_id (id_in s a) (id_in s i) ≡ b → b ≡ false
            differ true p = absurd (z (slot_same s h a i l focus_slot.0 (same_id→≡ (id_in s a) (id_in s i) p)))
            differ false p = refl

-- ## Whether a node is focused

module _ (s : List ℕ) (h : Sound s) (k i : ℕ) (there : i < slots_of s) where
  -- by the slot that holds the focused node
  pub focused_here : i ≡ k → is_focused (seen_at s k) (id_in s i) ≡ true
  unfolding is_focused
  focused_here e = rw (← e, slot_id_some s i there) (same_id_refl (id_in s i))

  pub focused_not : (i ≡ k → ⊥) → is_focused (seen_at s k) (id_in s i) ≡ false
  unfolding is_focused
  focused_not e = go (dec_lt k (slots_of s))
    where
      differ : k < slots_of s → (b : Bool) → same_id (id_in s k) (id_in s i) ≡ b → b ≡ false
      differ l true p = absurd (e (sym (slot_same s h k i l there (same_id→≡ (id_in s k) (id_in s i) p))))
      differ l false p = refl

      go : Dec (k < slots_of s) → same_option same_id (slot_id s k) (Some (id_in s i)) ≡ false
      go (yes l) = rw (slot_id_some s k l) (differ l (same_id (id_in s k) (id_in s i)) refl)
      go (no l) = let past : slots_of s ≤ k = omega arith in rw (slot_id_none s k past) refl
