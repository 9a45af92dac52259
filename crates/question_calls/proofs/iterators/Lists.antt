-- Laws of lists in the lent slice. Assumes nothing.
use mathlib.Core.Bool.{Bool, true, false}
use mathlib.Core.List.{List, [], ◌++◌}
use mathlib.Core.Path.{◌≡◌, refl, sym, ap, ◌∙◌}
use Prim.Native.Nat.{ℕ, ◌*◌, ◌≤◌, ◌<◌}
use native.Mathlib.Omega.{arith}
use lib.Dec.{ltb}
use lib.ListN.{length, take, drop}
use lib.Seq.{length-take-le, take_at}
use borrow.Author.Tests.{lt-ltb, le-ltb, ltb-true, ltb-false}
use Rattle.std.specs.Prelude.{if◌then◌else◌, Result, Ok, Err}
use Rattle.ids.specs.Ids.{id_words}
use Rattle.ids.specs.declared.FullNodeId.{FullNodeId}
use Rattle.ids.proofs.Ids.{id_words_length}
use Rattle.state.specs.State.{Forest}
use Rattle.state_array.specs.View.{view}
use Rattle.questions.specs.declared.Side.TheVariants.{Following}
use Rattle.questions.specs.declared.FilterResult.{FilterResult}
use Rattle.questions.specs.Walks.{turned, filtered_children}
use Rattle.questions.specs.Answers.{ask_number, written}
use Rattle.node_answers.specs.declared.Refusal.{Refusal}
use Rattle.node_answers.specs.declared.Refusal.TheVariants.{TooShort}
use Rattle.question_calls.proofs.node_asked.Asks.{of_asked}
use Rattle.node_answers.proofs.Answers.{list_short, list_written}
use Rattle.question_calls.specs.Asks.{Asks}
use Rattle.question_calls.specs.Slots.{OfSlot}
use Rattle.question_calls.specs.declared.steps.Place.{Place}
use Rattle.question_calls.specs.Lists.{Collected}
use Rattle.question_calls.specs.Plain.{listed_from}
use Rattle.question_calls.specs.Shown.{ListsBelow}
use Rattle.question_calls.specs.Iterators.{ListOf, Puts, PutsList}

-- what is answered, and the slice, where it is too short and where it is not
abbrev answer_for : ℕ → Bool → Result ℕ Refusal
answer_for n t = if t then Err TooShort else Ok n

abbrev slice_for : List ℕ → List ℕ → Bool → List ℕ
slice_for words lent t = if t then lent else written words lent

-- ## A copy

module _ (ids : List ℕ) (n : ℕ) (long : 2 * n ≤ length ids) (lent : List ℕ) where
  abbrev words : List ℕ
  words = take (2 * n) ids

  words_taken : length words ≡ 2 * n
  words_taken = length-take-le (2 * n) ids long

  pub puts_short : length lent < 2 * n → Puts words n lent (Err TooShort) lent
  puts_short h =
      let short = lt-ltb (length lent) (length words) (omega (arith, words_taken)) in
      record { answer_is = sym (ap (answer_for n) short); slice_is = sym (ap (slice_for words lent) short) }

  pub puts_all : 2 * n ≤ length lent → Puts words n lent (Ok n) (words ++ drop (2 * n) lent)
  unfolding written
  puts_all h =
      let fits = le-ltb (length lent) (length words) (omega (arith, words_taken)) in record {
        answer_is = sym (ap (answer_for n) fits);
        slice_is = ap (λ (k : ℕ). words ++ drop k lent) (sym words_taken) ∙ sym (ap (slice_for words lent) fits);
      }

-- ## No list

-- of no ids nothing is written
pub puts_nothing : (xs : List FullNodeId) (lent : List ℕ) → xs ≡ [] → PutsList xs lent (Ok 0) lent
unfolding written id_words
puts_nothing xs lent e =
    let fits = le-ltb (length lent) 0 (omega arith) in
    rw e (record { answer_is = sym (ap (answer_for 0) fits); slice_is = sym (ap (slice_for [] lent) fits) })

-- ## A list that was collected

-- what the buffer holds is the list
pub puts_collected : (xs : List FullNodeId) (before ids : List ℕ) (n : ℕ) (lent : List ℕ) (r : Result ℕ Refusal) (slice : List ℕ) → Collected xs before ids n
    → Puts (take (2 * n) ids) n lent r slice → PutsList xs lent r slice
unfolding written
puts_collected xs before ids n lent r slice c p =
    let long : length (id_words xs) ≡ 2 * n = omega (arith, id_words_length xs, c.count_is) in
    let same : take (2 * n) ids ≡ id_words xs = ap (take (2 * n)) c.words_are ∙ take_at (id_words xs) (drop (length (id_words xs)) before) (2 * n) long in
    rw (same, c.count_is) at p

-- and the answer is the question's
pub list_put : (s : Forest) (x : FullNodeId) (xs : List FullNodeId) (lent : List ℕ) (r : Result ℕ Refusal) (slice : List ℕ) → 0 ≡ ask_number s x
    → PutsList xs lent r slice → ListOf s x xs lent r slice
list_put s x xs lent r slice e p = go (ltb (length lent) (length (id_words xs))) refl
  where
    go : (t : Bool) → ltb (length lent) (length (id_words xs)) ≡ t → ListOf s x xs lent r slice
    go true q =
        rw (p.answer_is ∙ ap (answer_for (length xs)) q, p.slice_is ∙ ap (slice_for (id_words xs) lent) q)
        (list_short s x (length xs) (id_words xs) lent e (ltb-true (length lent) (length (id_words xs)) q))
    go false q =
        rw (p.answer_is ∙ ap (answer_for (length xs)) q)
        (list_written s x (length xs) (id_words xs) lent e (ltb-false (length lent) (length (id_words xs)) q) (length xs) refl slice
        (p.slice_is ∙ ap (slice_for (id_words xs) lent) q))

-- ## A node that is asked about

-- the list of the node in its slot is the list of the question
pub list_asked : (s : List ℕ) (x : FullNodeId) (i : ℕ) → Asks s x (Ok i) → (list : Forest → FullNodeId → List FullNodeId) (ys : List FullNodeId) (lent : List ℕ)
    (r : Result ℕ Refusal) (slice : List ℕ) → OfSlot s i (λ f y. list f y ≡ ys) → PutsList ys lent r slice → ListOf (view s).forest x (list (view s).forest x) lent r slice
list_asked s x i a list ys lent r slice e p =
    rw (of_asked s x i a.stands (λ f y. list f y ≡ ys) e) (list_put (view s).forest x ys lent r slice a.number_is p)

-- filtered children, from the first on
pub children_listed : (filter : FullNodeId → FilterResult) (s : List ℕ) (r : Place) (f : Forest) (x : FullNodeId) → ListsBelow filter Following s r f x
    → filtered_children filter f x ≡ listed_from filter Following s r
unfolding filtered_children turned
children_listed filter s r f x e = e
