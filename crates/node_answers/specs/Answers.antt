-- What a question answers, by the number that `questions` gives it: what is asked for, or why it is refused; and a list in a lent slice. Document 01,
-- "Numbers a call can return". Assumes nothing.
use Rattle.std.specs.Prelude.{List, ◌≡◌, ℕ, zero, suc, eqb, length, if◌then◌else◌, Result, Ok, Err}
use Rattle.ids.specs.declared.FullNodeId.{FullNodeId}
use Rattle.state.specs.State.{Forest}
use Rattle.questions.specs.Answers.{list_number, after, written}
use Rattle.node_answers.specs.declared.Refusal.{Refusal}
use Rattle.node_answers.specs.declared.Refusal.TheVariants.{NotSound, NotOurs, TooShort, NotPresent}

-- ## Why a question is refused

-- its number
abbrev pub refusal_number : Refusal → ℕ
refusal_number NotSound = 1
refusal_number NotOurs = 2
refusal_number TooShort = 21
refusal_number NotPresent = 22

-- the refusal with a number; 22 of any that is none of these
unfoldable pub refusal : ℕ → Refusal
refusal k = if eqb k 1 then NotSound else if eqb k 2 then NotOurs else if eqb k 21 then TooShort else NotPresent

-- ## An answer

-- with the number 0 what is asked for, with another the refusal alone
unfoldable pub answer : {A : Type 0} → ℕ → A → Result A Refusal
answer zero a = Ok a
answer (suc k) a = Err (refusal (suc k))

-- the number of an answer
abbrev pub number_of : {A : Type 0} → Result A Refusal → ℕ
number_of (Ok a) = 0
number_of (Err r) = refusal_number r

-- ## A list in a lent slice

-- the number of a question for a list of the node x, which is these words, where the slice has room for so many
abbrev pub number_for : Forest → FullNodeId → List ℕ → ℕ → ℕ
number_for s x words room = list_number s x room (length words)

-- a question for a list of n elements: how many they are, and the slice as it then is
pub record Lists (s : Forest) (x : FullNodeId) (n : ℕ) (words lent : List ℕ) (r : Result ℕ Refusal) (slice : List ℕ) : Type 0 where
  pub answer_is : r ≡ answer (number_for s x words (length lent)) n
  pub slice_is : slice ≡ after (number_for s x words (length lent)) lent (written words lent)
