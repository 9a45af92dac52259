-- Columns that stand one after another in one array of words, and what it means that the first of them are written. Assumes nothing.
use Rattle.std.specs.Prelude.{List, ◌≡◌, ℕ, ◌+◌, ◌≤◌, ◌<◌, length, get_or}
use Rattle.base.specs.Regions.{Part, part_start, part_of}

-- the first n words from `start` on are f's
abbrev pub Holds : List ℕ → ℕ → ℕ → (ℕ → ℕ) → Type 0
Holds notes start n f = (i : ℕ) → i < n → get_or notes (start + i) 0 ≡ f i

-- column j of a table holds its words
abbrev pub Column : List Part → List ℕ → ℕ → Type 0
Column ps notes j = Holds notes (part_start ps j) (part_of ps j).used (part_of ps j).word

-- no column uses more words than it has
abbrev pub Fit : List Part → Type 0
Fit ps = (j : ℕ) → (part_of ps j).used ≤ (part_of ps j).size

-- t has s's length, and the same words below `end`
pub record Below (end : ℕ) (s t : List ℕ) : Type 0 where
  pub long : length t ≡ length s
  pub kept : (k : ℕ) → k < end → get_or t k 0 ≡ get_or s k 0
