-- What the plan's functions answer: codes that stand in the notes so far, a place among them, the columns in the end. Assumes nothing.
use Rattle.std.specs.Prelude.{true, false, List, ◌⊎◌, ◌≡◌, ℕ, suc, ◌+◌, ◌-◌, ◌≤◌, ◌<◌, get_or}
use Rattle.ids.specs.Ids.{before}
use Rattle.ids.specs.declared.FullNodeId.{FullNodeId}
use Rattle.record.specs.Batch.{Batch}
use Rattle.record_reader.specs.Reader.{listed_at}
use Rattle.state.specs.State.{Forest}
use Rattle.state_array.specs.Layout.{SLOTS}
use Rattle.state_array.specs.View.{slots_of}
use Rattle.update.specs.Words.{here, old}
use Rattle.update.specs.Gone.{gone}
use Rattle.calls.specs.Layout.{CODES}
use Rattle.calls.specs.Columns.{Below}
use Rattle.calls.specs.declared.notes.Scope.{Scope}
use Rattle.calls.specs.Setting.{asked, forest}
use Rattle.calls.specs.Codes.{id_at, code_id}
use Rattle.calls.specs.Says.{Told, COMPARED}

-- ## Codes

-- code r of those that stand in the notes
abbrev pub code_in : List ℕ → ℕ → ℕ
code_in notes r = get_or notes (CODES + r) 0

-- a code of a slot that holds a node, or of a listed node
abbrev pub Valid : List ℕ → Scope → ℕ → Type 0
Valid state c code = (code < SLOTS → code < slots_of state) × (SLOTS ≤ code → code - SLOTS < c.listed)

-- the first n ids ascend
abbrev pub Ascends : (ℕ → FullNodeId) → ℕ → Type 0
Ascends id n = (i j : ℕ) → i < j → j < n → before (id i) (id j) ≡ true

-- the first n codes stand in ascending order of their ids, and are those that belong
pub record Codes (id : ℕ → FullNodeId) (Belongs : ℕ → Type 0) (n : ℕ) (notes : List ℕ) : Type 0 where
  pub up : Ascends (λ r. id (code_in notes r)) n
  pub are : (r : ℕ) → r < n → Belongs (code_in notes r)
  pub whole : (code : ℕ) → Belongs code → (r : ℕ) × (r < n) × (code_in notes r ≡ code)

module _ (s : Forest) (b : Batch) where
  -- the code of an old node that stays, one of the first i
  abbrev pub Stays : ℕ → ℕ → Type 0
  Stays i code = (code < i) × (gone s b (id_at s code) ≡ false)

  -- the code of a listed node that is new, one of the first j
  abbrev pub New : ℕ → ℕ → Type 0
  New j code = (k : ℕ) × (k < j) × (code ≡ SLOTS + k) × (old s b (here s b (listed_at b k).id) ≡ false)

  -- one of these
  abbrev pub Among : ℕ → ℕ → ℕ → Type 0
  Among i j code = (Stays i code) ⊎ (New j code)

-- the codes of the first i old nodes that stay and of the first j listed nodes that are new stand in the notes, `count` codes
pub record Planned (i j : ℕ) (state bytes : List ℕ) (c : Scope) (notes : List ℕ) (count : ℕ) : Type 0 where
  pub told : Told COMPARED state bytes c notes
  pub few : count ≤ i + j
  pub codes : Codes (code_id (forest state) (asked bytes c)) (Among (forest state) (asked bytes c) i j) count notes

-- ## A place for a new node

-- where x belongs among n ids: those before the place come before x, and those from there on do not
pub record PlaceOf (id : ℕ → FullNodeId) (n : ℕ) (x : FullNodeId) (r : ℕ) : Type 0 where
  pub within : r ≤ n
  pub under : (k : ℕ) → k < r → before (id k) x ≡ true
  pub over : (k : ℕ) → r ≤ k → k < n → before (id k) x ≡ false

-- where listed node j belongs among the first n codes
abbrev pub PlaceIn : List ℕ → List ℕ → Scope → List ℕ → ℕ → ℕ → ℕ → Type 0
PlaceIn state bytes c notes j n r =
    PlaceOf (λ k. code_id (forest state) (asked bytes c) (code_in notes k)) n (code_id (forest state) (asked bytes c) (SLOTS + j)) r

-- a code put at a place among the first n, those from there on moved up by one
pub record Inserted (notes₀ : List ℕ) (n at code : ℕ) (notes : List ℕ) : Type 0 where
  pub kept : Below CODES notes₀ notes
  pub below : (k : ℕ) → k < at → code_in notes k ≡ code_in notes₀ k
  pub there : code_in notes at ≡ code
  pub above : (k : ℕ) → at ≤ k → k < n → code_in notes (suc k) ≡ code_in notes₀ k

-- ## Columns

-- the columns that are written after the codes
abbrev pub CODED : ℕ
CODED = 13
