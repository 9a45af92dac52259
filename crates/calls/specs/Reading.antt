-- What the columns that are read out of a batch hold. Assumes nothing.
use Rattle.std.specs.Prelude.{not, List, ◌≡◌, ℕ, suc, ◌+◌, ◌≤◌, ◌<◌, eqb, ltb, length, get_or, if◌then◌else◌}
use Rattle.base.specs.Tests.{◌and◌, is_some, same_option}
use Rattle.base.specs.Search.{First}
use Rattle.ids.specs.Ids.{same_tree}
use Rattle.ids.specs.declared.TreeIndex.{TreeIndex}
use Rattle.record.specs.Batch.{graft?}
use Rattle.record.specs.Parse.{batch_of}
use Rattle.record_reader.specs.Reader.{listed_at}
use Rattle.state_array.specs.Layout.{SLOTS}
use Rattle.calls.specs.Layout.{WORDS, LISTED_SLOTS}
use Rattle.calls.specs.Columns.{Holds, Below}
use Rattle.calls.specs.Setting.{forest}
use Rattle.calls.specs.Codes.{slot_at, flag}
use Rattle.calls.specs.Says.{graft_below}

-- n words from `to` on stand within the notes
abbrev pub Room : ℕ → ℕ → Type 0
Room to n = to + n ≤ WORDS

-- ## Slots

-- count numbers from `from` on stand before `to`, and there is room for their slots
abbrev pub SlotRoom : ℕ → ℕ → ℕ → Type 0
SlotRoom from count to = (from + count ≤ to) × (to + count ≤ WORDS)

-- the slot of number j of tree t
unfoldable pub slot_word : List ℕ → TreeIndex → List ℕ → ℕ → ℕ → ℕ
slot_word state t notes from j = slot_at (forest state) (record { tree = t; node = record { 0 = get_or notes (from + j) 0 } })

-- ## Marks

-- one more than the first of count places that has slot i, 0 where none does
abbrev pub MarkOf : (ℕ → ℕ) → ℕ → ℕ → ℕ → Type 0
MarkOf slot count i v = (r : ℕ) → First (λ j. eqb (slot j) i) count r → v ≡ (if ltb r count then suc r else 0)

-- the same for each of n slots, in the notes from `to` on
abbrev pub MarksTo : (ℕ → ℕ) → ℕ → ℕ → ℕ → List ℕ → Type 0
MarksTo slot count to n notes = (i : ℕ) → i < n → MarkOf slot count i (get_or notes (to + i) 0)

-- count slots stand before `to`, and zeros in n places from there on
pub record MarkRoom (from count to n : ℕ) (notes : List ℕ) : Type 0 where
  pub before : from + count ≤ to
  pub room : to + n ≤ WORDS
  pub few : n ≤ SLOTS
  pub long : length notes ≡ WORDS
  pub zeros : Holds notes to n (λ i. 0)

-- the slots from `from` on mark the words from `to` on, and nothing before is other
pub record Marked (from count to n : ℕ) (s t : List ℕ) : Type 0 where
  pub below : Below to s t
  pub marks : MarksTo (λ j. get_or s (from + j) 0) count to n t

-- ## Claims

-- whether listed node i grafts a tree that the node in its slot did not graft
unfoldable pub claim_of : List ℕ → List ℕ → List ℕ → ℕ → ℕ
claim_of state bytes notes i =
    flag (is_some (graft? (listed_at (batch_of bytes) i).body)
    and not (same_option same_tree (graft? (listed_at (batch_of bytes) i).body) (graft_below state (get_or notes (LISTED_SLOTS + i) 0))))
