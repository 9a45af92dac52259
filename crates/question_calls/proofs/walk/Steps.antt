-- Laws of one call of a kept walk. Assumes nothing.
use mathlib.Core.Bool.{Bool, true, false, not}
use mathlib.Core.List.{List, [], ◌∷◌}
use mathlib.Core.Path.{◌≡◌, refl, sym, ap, ◌∙◌}
use Prim.Native.Nat.{ℕ, zero, suc, ◌+◌, ◌≤◌, ◌<◌}
use native.Mathlib.Numerals.{add-one}
use native.Mathlib.Omega.{arith}
use lib.Dec.{ltb}
use lib.ListN.{length}
use borrow.Author.Tests.{lt-ltb, le-ltb}
use Rattle.std.specs.Prelude.{Option, None, Some, Result, Ok, Err, IsErrAnd, slice_get}
use Rattle.base.specs.Tests.{◌and◌, is_some}
use Rattle.base.specs.Tables.{row, first}
use Rattle.base.proofs.Tables.{first_append}
use Rattle.ids.specs.declared.FullNodeId.{FullNodeId}
use Rattle.state.specs.State.{Forest, State, present}
use Rattle.state.specs.Sound.{sound}
use Rattle.state_array.specs.View.{id_in, slots_of, view}
use Rattle.questions.specs.declared.Side.{Side}
use Rattle.questions.specs.declared.Filter.{Filter}
use Rattle.questions.specs.declared.Walk.{Walk}
use Rattle.questions.specs.Answers.{ask_number, state_number, after}
use Rattle.questions.specs.Filters.{Seen, seen, filter_of}
use Rattle.questions.specs.Links.{siblings}
use Rattle.questions.specs.Walks.{filtered_siblings}
use Rattle.questions.specs.Kept.{side_of, filter_choice, sibling_list, walk_list, walk_number, stepped, next_of}
use Rattle.questions.proofs.Answers.{after_refused}
use Rattle.questions.proofs.Few.{siblings_few, filtered_few}
use Rattle.questions.proofs.Places.{take_more, place_out}
use Rattle.node_answers.specs.declared.Refusal.{Refusal}
use Rattle.node_answers.specs.declared.Refusal.TheVariants.{NotOurs}
use Rattle.node_answers.specs.Answers.{refusal_number, answer}
use Rattle.node_answers.proofs.Answers.{refusal_not_0, answer_refused}
use Rattle.question_calls.specs.Asks.{Asks}
use Rattle.question_calls.specs.Slots.{Sound, slot_id}
use Rattle.question_calls.proofs.links.Slots.{slot_id_some, slot_id_none, slot_shape, slot_present}
use Rattle.question_calls.proofs.lists.Lists.{few_nodes}
use Rattle.question_calls.specs.Walk.{stepped_of, handed_out, AsksWalk, FindsAt}

-- ## The numbers of a walk

-- the numbers that are ours
side_ours : (n : ℕ) → is_some (side_of n) ≡ not (ltb 1 n)
unfolding side_of
side_ours zero = refl
side_ours (suc zero) = refl
side_ours (suc (suc n)) = ap not (sym (lt-ltb 1 (suc (suc n)) (omega arith)))

filter_ours : (n : ℕ) → is_some (filter_choice n) ≡ not (ltb 3 n)
unfolding filter_choice
filter_ours zero = refl
filter_ours (suc zero) = refl
filter_ours (suc (suc zero)) = refl
filter_ours (suc (suc (suc zero))) = refl
filter_ours (suc (suc (suc (suc n)))) = ap not (sym (lt-ltb 3 (suc (suc (suc (suc n)))) (omega arith)))

module _ (v : Forest) (w : Walk) where
  -- 1 comes first
  walk_unsound : (r : Refusal) → refusal_number r ≡ state_number v → refusal_number r ≡ walk_number v w
  unfolding state_number walk_number
  walk_unsound r e = e ∙ sym (first_append (row 1 (not (sound v)) ∷ []) _ (λ z. refusal_not_0 r (e ∙ z)))

  module _ (e : sound v ≡ true) where
    -- then 2
    not_our_side : 1 < w.side → 2 ≡ walk_number v w
    unfolding walk_number first ◌and◌
    not_our_side l = rw (e, side_ours w.side, lt-ltb 1 w.side l) refl

    not_our_filter : 3 < w.filter → 2 ≡ walk_number v w
    unfolding walk_number first ◌and◌
    not_our_filter l = rw (e, filter_ours w.filter, lt-ltb 3 w.filter l) (go (is_some (side_of w.side)))
      where
        go : (b : Bool) → 2 ≡ first (row 1 false ∷ row 2 (not (b and false)) ∷ row 22 (not (present v.nodes w.node)) ∷ [])
        go true = refl
        go false = refl

    -- then 22
    number_walk : w.side ≤ 1 → w.filter ≤ 3 → ask_number v w.node ≡ walk_number v w
    unfolding ask_number walk_number first ◌and◌
    number_walk l k = rw (e, side_ours w.side, le-ltb 1 w.side l, filter_ours w.filter, le-ltb 3 w.filter k) refl

module _ (s : List ℕ) (w : Walk) where
  pub asks_walk_unsound : (result : Result ℕ Refusal) (r : Refusal) → IsErrAnd result (λ d. d ≡ r) → refusal_number r ≡ state_number (view s).forest → AsksWalk s w result
  asks_walk_unsound (Ok i) r q e = absurd q
  asks_walk_unsound (Err d) r q e = record { number_is = walk_unsound _ w d (rw q e); stands = tt; ours = tt }

  module _ (e : Sound s) where
    pub asks_walk_side : 1 < w.side → AsksWalk s w (Err NotOurs)
    asks_walk_side l = record { number_is = not_our_side _ w e l; stands = tt; ours = tt }

    pub asks_walk_filter : 3 < w.filter → AsksWalk s w (Err NotOurs)
    asks_walk_filter l = record { number_is = not_our_filter _ w e l; stands = tt; ours = tt }

    pub asks_walk : w.side ≤ 1 → w.filter ≤ 3 → (r : Result ℕ Refusal) → Asks s w.node r → AsksWalk s w r
    asks_walk l k (Ok i) a = record {
      number_is = a.number_is ∙ number_walk _ w e l k;
      stands = a.stands;
      ours = record { a_side = omega arith; a_filter = omega arith };
    }
    asks_walk l k (Err r) a = record { number_is = a.number_is ∙ number_walk _ w e l k; stands = tt; ours = tt }

-- ## The list of a walk

module _ (v : Seen) (w : Walk) (side : Side) (on : side_of w.side ≡ Some side) where
  pub list_plain : w.filter ≡ 0 → walk_list v w ≡ siblings side v.forest w.node
  unfolding walk_list filter_choice sibling_list
  list_plain e = rw (on, walk_list, ap filter_choice e) refl

  pub list_filtered : (filter : Filter) → filter_choice w.filter ≡ Some (Some filter) → walk_list v w ≡ filtered_siblings (filter_of filter v) side v.forest w.node
  unfolding walk_list sibling_list
  list_filtered filter e = rw (on, walk_list, e) refl

-- it has at most 256 ids
pub walk_few : (s : List ℕ) → Sound s → (i : ℕ) → i < slots_of s → (w : Walk) → w.node ≡ id_in s i → length (walk_list (seen (view s)) w) ≤ 256
unfolding walk_list sibling_list
walk_few s h i there w e = go (side_of w.side) (filter_choice w.filter)
  where
    plain : (side : Side) → length (siblings side (view s).forest w.node) ≤ 256
    plain side = rw e (omega (arith, few_nodes s h, siblings_few side (view s).forest (slot_shape s h) (id_in s i) (slot_present s h i there)))

    under : (side : Side) (filter : Filter) → length (filtered_siblings (filter_of filter (seen (view s))) side (view s).forest w.node) ≤ 256
    under side filter =
        rw e (omega (arith, few_nodes s h, filtered_few side (view s).forest (slot_shape s h) (id_in s i) (slot_present s h i there) (filter_of filter (seen (view s)))))

    go : (o : Option Side) (c : Option (Option Filter))
        → length {A = FullNodeId} (elim o as (λ _. List FullNodeId) [
          | None ↦ []
          | Some side ↦ elim c [ None ↦ [] | Some choice ↦ sibling_list (seen (view s)) w.node side choice ]
        ]) ≤ 256
    go None c = omega arith
    go (Some side) None = omega arith
    go (Some side) (Some None) = plain side
    go (Some side) (Some (Some filter)) = under side filter

-- ## One call

module _ (v : State) (w : Walk) where
  -- a call that is refused
  pub step_refused : (r : Refusal) → refusal_number r ≡ walk_number v.forest w → handed_out w w.count (Err r) ≡ stepped_of (next_of v w)
  unfolding stepped_of next_of stepped
  step_refused r e =
      rw (← e, after_refused None (slice_get (walk_list (seen v) w) w.count) (refusal_number r) (refusal_not_0 r), answer_refused {A = Option FullNodeId} None r refl) refl

  module _ (z : walk_number v.forest w ≡ 0) (r : Option FullNodeId) (e : r ≡ slice_get (walk_list (seen v) w) w.count) where
    by_place : (o : Option FullNodeId) → r ≡ o → next_of v w ≡ stepped 0 w o
    unfolding next_of after
    by_place o q = rw (z, sym e ∙ q) refl

    -- the end
    pub step_end : r ≡ None → handed_out w w.count (Ok None) ≡ stepped_of (next_of v w)
    unfolding stepped_of stepped answer
    step_end q = rw (by_place None q) refl

    -- the next sibling
    pub step_found : (x : FullNodeId) (count : ℕ) → r ≡ Some x → count ≡ w.count + 1 → handed_out w count (Ok r) ≡ stepped_of (next_of v w)
    unfolding stepped_of stepped answer
    step_found x count q k = rw (by_place (Some x) q, q, k, add-one w.count) refl

    -- there the count is a small number
    pub step_room : (x : FullNodeId) → length (walk_list (seen v) w) ≤ 256 → r ≡ Some x → w.count < 256
    step_room x few q = omega (arith, few, (take_more (walk_list (seen v) w) w.count x (sym e ∙ q)).1)

-- the walk about the node in its slot
pub finds_asked : (s : List ℕ) (i : ℕ) (w : Walk) (r : Option FullNodeId) → id_in s i ≡ w.node → FindsAt s i w.side w.filter w.count r
    → r ≡ slice_get (walk_list (seen (view s)) w) w.count
finds_asked s i w r e q =
    q ∙ ap (λ (x : FullNodeId). slice_get (walk_list (seen (view s)) (record { node = x; side = w.side; filter = w.filter; count = w.count })) w.count) e

-- ## The node in a slot, the sibling at a place

pub slot_nothing : (s : List ℕ) (k n : ℕ) (o : Option FullNodeId) → n ≡ slots_of s → n ≤ k → slot_id s k ≡ o → None ≡ o
slot_nothing s k n o e h q = sym (slot_id_none s k (omega arith)) ∙ q

pub slot_found : (s : List ℕ) (k n : ℕ) (x : FullNodeId) (o : Option FullNodeId) → n ≡ slots_of s → k < n → x ≡ id_in s k → slot_id s k ≡ o → Some x ≡ o
slot_found s k n x o e h p q = ap Some p ∙ sym (slot_id_some s k (omega arith)) ∙ q

pub place_nothing : (xs : List FullNodeId) (k : ℕ) → length xs ≤ k → None ≡ slice_get xs k
place_nothing xs k h = sym (place_out xs k h)

pub place_found : (xs : List FullNodeId) (k : ℕ) (x y : FullNodeId) → x ≡ y → slice_get xs k ≡ Some y → Some x ≡ slice_get xs k
place_found xs k x y e q = ap Some e ∙ sym q

-- a place of the list that starts at r
pub listed_place : (s : List ℕ) (k : ℕ) (xs ys : List FullNodeId) (count : ℕ) → slot_id s k ≡ slice_get ys count → xs ≡ ys → slot_id s k ≡ slice_get xs count
listed_place s k xs ys count e q = e ∙ ap (λ (l : List FullNodeId). slice_get l count) (sym q)

-- the list that the numbers mean
module _ (s : List ℕ) (i side filter count : ℕ) (r : Option FullNodeId) (on : Side) (e : side_of side ≡ Some on) where
  abbrev walk : Walk
  walk = record { node = id_in s i; side = side; filter = filter; count = count }

  pub finds_plain : filter ≡ 0 → r ≡ slice_get (siblings on (view s).forest (id_in s i)) count → FindsAt s i side filter count r
  finds_plain z q = q ∙ ap (λ (l : List FullNodeId). slice_get l count) (sym (list_plain (seen (view s)) walk on e z))

  pub finds_filtered : (under : Filter) → filter_choice filter ≡ Some (Some under)
      → r ≡ slice_get (filtered_siblings (filter_of under (seen (view s))) on (view s).forest (id_in s i)) count → FindsAt s i side filter count r
  finds_filtered under c q = q ∙ ap (λ (l : List FullNodeId). slice_get l count) (sym (list_filtered (seen (view s)) walk on e under c))
