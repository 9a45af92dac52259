-- The numbers that stand for fates, and what the functions answer of a forest s and a batch b. Assumes nothing.
use Rattle.std.specs.Prelude.{Bool, List, ◌⊎◌, ◌≡◌, ℕ, ◌+◌, ◌≤◌, ◌<◌, get_or, Option, None, Some}
use Rattle.ids.specs.declared.FullNodeId.{FullNodeId}
use Rattle.record.specs.Batch.{Batch}
use Rattle.state.specs.State.{ParentAndIndex, Forest, link_at}
use Rattle.state_array.specs.View.{slots_of}
use Rattle.update.specs.Gone.{Fate, stays, goes, asParent, goes_if, replaced, fate_here, fate_elsewhere, fate}
use Rattle.calls.specs.Layout.{FATES}
use Rattle.calls.specs.declared.notes.Scope.{Scope}
use Rattle.calls.specs.Setting.{asked, forest, Scoped}
use Rattle.calls.specs.Codes.{id_at}
use Rattle.calls.specs.Says.{turn_mark, naming_mark, goes_word, Told}

-- ## Fates

-- the number of a fate
unfoldable pub fate_code : Fate → ℕ
fate_code stays = 0
fate_code goes = 1
fate_code asParent = 2

module _ (s : Forest) (b : Batch) where
  -- by its link: a node without a parent goes if it is replaced
  unfoldable pub fate_by : FullNodeId → Option ParentAndIndex → Fate
  fate_by x None = goes_if (replaced s b x)
  fate_by x (Some l) = fate s b x l

  -- the number of an old node's fate
  unfoldable pub fate_mark : FullNodeId → ℕ
  fate_mark x = fate_code (fate_by x (link_at s.nodes x))

-- of the node in slot i
unfoldable pub fate_word : List ℕ → List ℕ → Scope → ℕ → ℕ
fate_word state bytes c i = fate_mark (forest state) (asked bytes c) (id_at (forest state) i)

-- ## The fate of a node

-- whether x is replaced
abbrev pub ReplacedIs : Scope → FullNodeId → ℕ → ℕ → Bool → Type 0
ReplacedIs scope x turn naming r =
    (s : Forest) (b : Batch) → Scoped s b scope → turn ≡ turn_mark s b x → naming ≡ naming_mark s b x → r ≡ replaced s b x

-- in the batch's tree, under p
abbrev pub FateHereIs : Scope → FullNodeId → FullNodeId → ℕ → ℕ → ℕ → ℕ → Type 0
FateHereIs scope x p turn naming parentTurn r =
    (s : Forest) (b : Batch) → Scoped s b scope → turn ≡ turn_mark s b x → naming ≡ naming_mark s b x → parentTurn ≡ turn_mark s b p
    → r ≡ fate_code (fate_here s b x p)

-- the root x of another tree, under its graft in a slot
abbrev pub FateUnderIs : List ℕ → List ℕ → Scope → ℕ → ℕ → Type 0
FateUnderIs state bytes c slot r =
    (x : FullNodeId) → ((id_at (forest state) slot).tree.0 ≡ x.tree.0 → ⊥)
    → r ≡ fate_code (fate_elsewhere (forest state) (asked bytes c) x (id_at (forest state) slot))

-- ## All nodes

-- the columns that are written after the parents' slots
abbrev pub ABOVE_TOLD : ℕ
ABOVE_TOLD = 9

-- what stands where it is to be told of slot j: whether its node goes; or, past the first k, that it fares as its parent does
abbrev pub Cell : ℕ → List ℕ → List ℕ → Scope → List ℕ → ℕ → Type 0
Cell k state bytes c notes j =
    (get_or notes (FATES + j) 0 ≡ goes_word state bytes c j) ⊎ ((k ≤ j) × (get_or notes (FATES + j) 0 ≡ 2) × (fate_word state bytes c j ≡ 2))

-- of the first k slots it is told whether they go
pub record Fated (k : ℕ) (state bytes : List ℕ) (c : Scope) (notes : List ℕ) : Type 0 where
  pub told : Told ABOVE_TOLD state bytes c notes
  pub memo : (j : ℕ) → j < slots_of state → Cell k state bytes c notes j
