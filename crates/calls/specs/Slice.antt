-- Which slots a column of marks picks, and their ids in the lent slice. Assumes nothing.
use Rattle.std.specs.Prelude.{List, map, ◌++◌, ◌≡◌, ℕ, ◌+◌, ◌*◌, ◌≤◌, ◌<◌, length, get_or, take, drop, Result, Ok, Err}
use Rattle.base.specs.Tests.{keep}
use Rattle.base.specs.Bytes.{bit, list_of}
use Rattle.ids.specs.Ids.{id_words}
use Rattle.ids.specs.declared.FullNodeId.{FullNodeId}
use Rattle.state_array.specs.View.{id_in, slots_of}
use Rattle.update.specs.Reports.{Changes, change_words, slice_after}
use Rattle.calls.specs.Layout.{WORDS, FATES, CHANGED}
use Rattle.calls.specs.declared.reports.Lists.{Lists}
use Rattle.calls.specs.declared.reports.TooShort.{TooShort}

-- ## Marks

-- n words of the notes from a place on, and the weight of a bit
pub record Marks (start n weight : ℕ) : Type 0 where
  pub within : start + n ≤ WORDS
  pub some : 0 < weight

-- those of the first n slots whose word has the bit of a weight
unfoldable pub slots_with : ℕ → List ℕ → ℕ → ℕ → List ℕ
slots_with weight notes start n = keep (λ i. bit weight (get_or notes (start + i) 0)) (list_of n (λ i. i))

-- how many these are
pub record Counted (weight : ℕ) (notes : List ℕ) (start n r : ℕ) : Type 0 where
  pub few : r ≤ n
  pub count_is : r ≡ length (slots_with weight notes start n)

-- the ids of a state's slots
abbrev pub ids_at : List ℕ → List ℕ → List FullNodeId
ids_at state slots = map (id_in state) slots

-- the ids of those slots of a state whose word has the bit
abbrev pub picked : ℕ → List ℕ → ℕ → List ℕ → List FullNodeId
picked weight notes start state = ids_at state (slots_with weight notes start (slots_of state))

-- the four lists that the marks of the notes pick from a state and the one after it
abbrev pub changes_noted : List ℕ → List ℕ → List ℕ → Changes
changes_noted state notes next = record {
  added = picked 1 notes CHANGED next;
  updated = picked 2 notes CHANGED next;
  removed = picked 1 notes FATES state;
  relinked = picked 4 notes CHANGED next;
}

-- ## The slice

-- there is room for the ids of the slots that are picked, from a place on
pub record Room (weight : ℕ) (notes : List ℕ) (start : ℕ) (state : List ℕ) (at : ℕ) (slice : List ℕ) : Type 0 where
  pub marks : Marks start (slots_of state) weight
  pub fits : at + 2 * length (picked weight notes start state) ≤ length slice

-- the slice with these ids written from a place on, and the place after them
pub record ListWritten (xs : List FullNodeId) (at : ℕ) (before after : List ℕ) (r : ℕ) : Type 0 where
  pub same_length : length after ≡ length before
  pub slice_is : after ≡ take at before ++ id_words xs ++ drop (at + 2 * length xs) before
  pub end_is : r ≡ at + 2 * length xs

-- the slice has room for four lists, and has them: their lengths
pub record ListsLent (c : Changes) (before after : List ℕ) (l : Lists) : Type 0 where
  pub added_is : l.added ≡ length c.added
  pub updated_is : l.updated ≡ length c.updated
  pub removed_is : l.removed ≡ length c.removed
  pub relinked_is : l.relinked ≡ length c.relinked
  pub room : length (change_words c) ≤ length before
  pub slice_is : after ≡ slice_after before c

-- the slice is too short for them, and stays as it is: how many elements they take
pub record ListsShort (c : Changes) (before after : List ℕ) (e : TooShort) : Type 0 where
  pub words_are : e.words ≡ length (change_words c)
  pub short : length before < length (change_words c)
  pub slice_is : after ≡ before

-- one or the other
unfoldable pub ListsWritten : Changes → List ℕ → List ℕ → Result Lists TooShort → Type 0
ListsWritten c before after (Ok l) = ListsLent c before after l
ListsWritten c before after (Err e) = ListsShort c before after e
