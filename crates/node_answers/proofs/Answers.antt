-- Laws of the answers: by the number, one for each way out; the number of an answer is that of the tables; a list in a lent slice. Assumes nothing.
use Rattle.std.specs.Prelude.{not, Bool, true, false, List, [], ◌∷◌, ◌≡◌, ℕ, zero, suc, ◌<◌, ◌≤◌, length, Result, Ok, Err, IsErrAnd, None, Some}
use Rattle.std.specs.Result.{result_ok, result_unwrap_or}
use mathlib.Core.Path.{refl, sym, ap, ◌∙◌}
use native.Mathlib.Omega.{arith}
use Rattle.base.specs.Tests.{◌and◌, is_some}
use Rattle.base.specs.Tables.{row, first}
use Rattle.ids.specs.declared.FullNodeId.{FullNodeId}
use Rattle.state.specs.State.{Forest, present}
use Rattle.state.specs.Sound.{sound}
use Rattle.questions.specs.declared.Walk.{Walk}
use Rattle.questions.specs.Answers.{ask_number, state_number, list_number, after, written}
use Rattle.questions.specs.Kept.{side_of, filter_choice, walk_number}
use Rattle.questions.proofs.Answers.{list_number_refused, list_number_short, list_number_fits, after_refused, after_answered}
use Rattle.node_answers.specs.declared.Refusal.{Refusal}
use Rattle.node_answers.specs.declared.Refusal.TheVariants.{NotSound, NotOurs, TooShort, NotPresent}
use Rattle.node_answers.specs.Answers.{refusal_number, refusal, answer, number_of, number_for, Lists}

-- ## By the number

-- the number of a refusal says which it is
pub refusal_is : (r : Refusal) → refusal (refusal_number r) ≡ r
unfolding refusal
refusal_is NotSound = refl
refusal_is NotOurs = refl
refusal_is TooShort = refl
refusal_is NotPresent = refl

-- it is not 0
pub refusal_not_0 : (r : Refusal) → refusal_number r ≡ 0 → ⊥
refusal_not_0 NotSound e = omega arith
refusal_not_0 NotOurs e = omega arith
refusal_not_0 TooShort e = omega arith
refusal_not_0 NotPresent e = omega arith

-- what is refused with a number, whatever is asked for
pub answer_refused : {A : Type 0} (a : A) (r : Refusal) {n : ℕ} → refusal_number r ≡ n → Err r ≡ answer n a
unfolding answer refusal
answer_refused a NotSound e = rw (← e) refl
answer_refused a NotOurs e = rw (← e) refl
answer_refused a TooShort e = rw (← e) refl
answer_refused a NotPresent e = rw (← e) refl

-- what is not
pub answer_given : {A : Type 0} (a b : A) {n : ℕ} → 0 ≡ n → b ≡ a → Ok b ≡ answer n a
unfolding answer
answer_given a b e q = rw (← e, q) refl

-- at the exit of a `?`: the error of the call is handed on
pub answer_exit : {A : Type 0} (a : A) (result : Result A Refusal) (r : Refusal) {n : ℕ} → IsErrAnd result (λ e. e ≡ r) → refusal_number r ≡ n → result ≡ answer n a
answer_exit a (Ok b) r q e = absurd q
answer_exit a (Err d) r q e = rw q (answer_refused a r e)

-- after any number but 0 what is read of it is 0 or none, whatever stands for that
pub answer_after : {A : Type 0} (nothing a : A) (k : ℕ) → result_unwrap_or (answer k a) nothing ≡ after k nothing a
unfolding answer after
answer_after nothing a zero = refl
answer_after nothing a (suc k) = refl

-- what is asked for is there after 0 alone
pub answer_result : {A : Type 0} (a : A) (k : ℕ) → result_ok (answer k a) ≡ after k None (Some a)
unfolding answer after
answer_result a zero = refl
answer_result a (suc k) = refl

-- ## The number of an answer is the one that it was made with

module _ {A : Type 0} (a : A) (s : Forest) where
  pub ask_numbered : (x : FullNodeId) → number_of (answer (ask_number s x) a) ≡ ask_number s x
  unfolding ask_number first answer refusal ◌and◌
  ask_numbered x = go (sound s) (present s.nodes x)
    where
      go : (b c : Bool) → let k = first (row 1 (not b) ∷ row 22 (not c) ∷ []) in number_of (answer k a) ≡ k
      go true true = refl
      go true false = refl
      go false c = refl

  pub state_numbered : number_of (answer (state_number s) a) ≡ state_number s
  unfolding state_number first answer refusal ◌and◌
  state_numbered = go (sound s)
    where
      go : (b : Bool) → let k = first (row 1 (not b) ∷ []) in number_of (answer k a) ≡ k
      go true = refl
      go false = refl

  pub list_numbered : (x : FullNodeId) (room wanted : ℕ) → number_of (answer (list_number s x room wanted) a) ≡ list_number s x room wanted
  unfolding list_number first answer refusal ◌and◌
  list_numbered x room wanted = go (sound s) (present s.nodes x) _
    where
      go : (b c d : Bool) → let k = first (row 1 (not b) ∷ row 22 (not c) ∷ row 21 d ∷ []) in number_of (answer k a) ≡ k
      go true true true = refl
      go true true false = refl
      go true false d = refl
      go false c d = refl

  -- and of a kept walk
  pub walk_numbered : (w : Walk) → number_of (answer (walk_number s w) a) ≡ walk_number s w
  unfolding walk_number first answer refusal ◌and◌
  walk_numbered w = go (sound s) (is_some (side_of w.side)) (is_some (filter_choice w.filter)) (present s.nodes w.node)
    where
      go : (b c d e : Bool) → let k = first (row 1 (not b) ∷ row 2 (not (c and d)) ∷ row 22 (not e) ∷ []) in number_of (answer k a) ≡ k
      go true true true true = refl
      go true true true false = refl
      go true true false e = refl
      go true false d e = refl
      go false c d e = refl

-- ## A list in a lent slice

module _ (s : Forest) (x : FullNodeId) (n : ℕ) (words lent : List ℕ) where
  unanswered : (r : Refusal) → refusal_number r ≡ number_for s x words (length lent) → Lists s x n words lent (Err r) lent
  unanswered r e = record {
    answer_is = answer_refused n r e;
    slice_is = sym (after_refused lent (written words lent) _ (refusal_not_0 r)) ∙ ap (λ (j : ℕ). after j lent (written words lent)) e;
  }

  -- the question is refused
  pub list_refused : (r : Refusal) → refusal_number r ≡ ask_number s x → Lists s x n words lent (Err r) lent
  list_refused r e = unanswered r (e ∙ sym (list_number_refused s x (length lent) (length words) (λ z. refusal_not_0 r (e ∙ z))))

  pub list_exit : (result : Result ℕ Refusal) (r : Refusal) → IsErrAnd result (λ e. e ≡ r) → refusal_number r ≡ ask_number s x → Lists s x n words lent result lent
  list_exit (Ok m) r q e = absurd q
  list_exit (Err d) r q e = rw q (list_refused r e)

  module _ (e : 0 ≡ ask_number s x) where
    -- the slice is too short
    pub list_short : length lent < length words → Lists s x n words lent (Err TooShort) lent
    list_short l = unanswered TooShort (sym (list_number_short s x (length lent) (length words) (sym e) l))

    -- the list is written
    pub list_written : length words ≤ length lent → (m : ℕ) → m ≡ n → (slice : List ℕ) → slice ≡ written words lent → Lists s x n words lent (Ok m) slice
    list_written l m is slice put =
        let k = list_number_fits s x (length lent) (length words) (sym e) l in
        record { answer_is = answer_given n m (sym k) is; slice_is = put ∙ sym (after_answered lent (written words lent) _ k) }
