-- Laws of the node that a question asks about. Assumes nothing.
use mathlib.Core.Bool.{true, not}
use mathlib.Core.List.{List, [], ◌∷◌}
use Rattle.std.specs.Prelude.{Some, Result, Ok, Err, IsErrAnd}
use mathlib.Core.Path.{◌≡◌, refl, sym, ap, ◌∙◌}
use Prim.Native.Nat.{ℕ, ◌≤◌, ◌<◌}
use borrow.Author.Tests.{lt-ltb, le-ltb}
use Rattle.base.specs.Search.{First}
use Rattle.base.proofs.Tables.{first_holds, first_passes, first_none, first_append}
use Rattle.base.specs.Tables.{row}
use Rattle.ids.specs.Ids.{same_id}
use Rattle.ids.proofs.Ids.{same_id→≡, same_id_refl}
use Rattle.ids.specs.declared.FullNodeId.{FullNodeId}
use Rattle.state.specs.State.{Forest, find}
use Rattle.state.specs.Sound.{sound, ascending}
use Rattle.state.proofs.Sound.{shape_parts, sound_parts}
use Rattle.state_array.specs.View.{id_in, node_in, slots_of, view}
use Rattle.state_lookup.specs.Lookup.{stands_at, in_slot, SlotOf}
use Rattle.state_lookup.proofs.Order.{ordered_is, stands_first}
use Rattle.state_lookup.proofs.Found.{find_there, present_slot}
use Rattle.questions.specs.Answers.{ask_number, state_number}
use Rattle.node_answers.specs.declared.Refusal.{Refusal}
use Rattle.node_answers.specs.declared.Refusal.TheVariants.{NotPresent}
use Rattle.node_answers.specs.Answers.{refusal_number, answer}
use Rattle.node_answers.proofs.Answers.{refusal_not_0, answer_given}
use Rattle.question_calls.specs.Asks.{NodeAt, Asks}
use Rattle.question_calls.specs.Slots.{OfSlot}

-- the ids of a sound state ascend
in_order : (s : List ℕ) → sound (view s).forest ≡ true → ascending (view s).forest.nodes ≡ true
in_order s e = (shape_parts (view s).forest (sound_parts (view s).forest e).shape).ordered

module _ (s : List ℕ) (x : FullNodeId) where
  -- the node in the slot is the one that the state finds
  pub asked_found : (i : ℕ) → NodeAt s x i → find x (view s).forest.nodes ≡ Some (node_in s i)
  unfolding in_slot
  asked_found i h =
      let up = sym (ordered_is s) ∙ in_order s h.is_sound in
      let at : same_id x (id_in s i) ≡ true = rw h.id_is (same_id_refl x) in
      find_there s x i (stands_first (id_in s) (slots_of s) up x i h.within at) h.within

  -- the slot holds the node with its id
  pub asked_here : (i : ℕ) → NodeAt s x i → NodeAt s (id_in s i) i
  asked_here i h = record { is_sound = h.is_sound; within = h.within; id_is = refl }

  -- ## The three ways out

  -- the state is not sound
  pub asks_unsound : (result : Result ℕ Refusal) (r : Refusal) → IsErrAnd result (λ d. d ≡ r) → refusal_number r ≡ state_number (view s).forest → Asks s x result
  unfolding state_number ask_number
  asks_unsound (Ok i) r q e = absurd q
  asks_unsound (Err d) r q e =
      let k : refusal_number d ≡ state_number (view s).forest = rw q e in
      record { number_is = k ∙ sym (first_append (row 1 (not (sound (view s).forest)) ∷ []) _ (λ z. refusal_not_0 d (k ∙ z))); stands = tt }

  module _ (e : sound (view s).forest ≡ true) (i : ℕ) (h : SlotOf s x i) where
    found : First (stands_at s x) (slots_of s) i
    found = h.first (sym (ordered_is s) ∙ in_order s e)

    -- it has no such node
    pub asks_absent : slots_of s ≤ i → Asks s x (Err NotPresent)
    unfolding ask_number
    asks_absent past = record {
      number_is = sym (first_passes 1 _ _ (ap not e) ∙ first_holds 22 _ _ (ap not (present_slot s x i found ∙ le-ltb i (slots_of s) past)));
      stands = tt;
    }

    -- the node stands in the slot
    pub asks_there : i < slots_of s → Asks s x (Ok i)
    unfolding ask_number
    asks_there l = record {
      number_is = sym (first_passes 1 _ _ (ap not e) ∙ first_passes 22 _ _ (ap not (present_slot s x i found ∙ lt-ltb i (slots_of s) l)) ∙ first_none);
      stands = record { is_sound = e; within = l; id_is = sym (same_id→≡ x (id_in s i) (h.hit l)) };
    }

-- what is said of the node in a slot is said of the node that is asked about
pub of_asked : (s : List ℕ) (x : FullNodeId) (i : ℕ) → NodeAt s x i → (P : Forest → FullNodeId → Type 0) → OfSlot s i P → P (view s).forest x
of_asked s x i h P said = rw (← h.id_is) (said h.is_sound h.within)

-- what is found of it in its slot is what is asked for
pub asked_given : {A : Type 0} (s : List ℕ) (x : FullNodeId) (i : ℕ) → Asks s x (Ok i) → (P : Forest → FullNodeId → A) (r : A) → OfSlot s i (λ f y. r ≡ P f y)
    → Ok r ≡ answer (ask_number (view s).forest x) (P (view s).forest x)
asked_given s x i a P r said = answer_given _ r a.number_is (of_asked s x i a.stands (λ f y. r ≡ P f y) said)
