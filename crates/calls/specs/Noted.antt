-- What functions answer by the words of the notes alone. What it means for a state and a batch follows from `Told`. Assumes nothing.
use Rattle.std.specs.Prelude.{Bool, false, List, ◌≡◌, ℕ, ◌+◌, ◌-◌, ◌<◌, eqb, ltb, get_or, if◌then◌else◌, Option, None, Some}
use Rattle.ids.specs.declared.FullNodeId.{FullNodeId}
use Rattle.state_array.specs.Layout.{SLOTS}
use Rattle.state_array.specs.View.{id_in}
use Rattle.calls.specs.Layout.{LISTED, ENDS, LISTED_SLOTS, TURNS, ABOVE, FATES, DIFFERS}
use Rattle.calls.specs.declared.notes.Scope.{Scope}

-- the node of the batch's tree whose number stands at a place
abbrev pub id_noted : Scope → List ℕ → ℕ → FullNodeId
id_noted c notes at = record { tree = c.tree; node = record { 0 = get_or notes at 0 } }

-- the id of a code: of the node in a slot, or of a listed node
unfoldable pub code_noted : List ℕ → Scope → List ℕ → ℕ → FullNodeId
code_noted state c notes code = if ltb code SLOTS then id_in state code else id_noted c notes (LISTED + (code - SLOTS))

-- where the children of listed node i start among all: where those of the node before it end
unfoldable pub start_noted : List ℕ → ℕ → ℕ
start_noted notes i = if ltb i 1 then 0 else get_or notes (ENDS + (i - 1)) 0

-- the node in a slot is listed, and differs at its turn
unfoldable pub differ_noted : List ℕ → ℕ → Bool
differ_noted notes slot =
    if ltb (get_or notes (TURNS + slot) 0) 1 then false else eqb (get_or notes (DIFFERS + (get_or notes (TURNS + slot) 0 - 1)) 0) 1

-- listed node i differs, and goes
unfoldable pub clash_noted : List ℕ → ℕ → Bool
clash_noted notes i =
    if eqb (get_or notes (DIFFERS + i) 0) 1 then eqb (get_or notes (FATES + get_or notes (LISTED_SLOTS + i) 0) 0) 1 else false

-- those of k listed nodes that differ have slots
abbrev pub ClashRoom : List ℕ → ℕ → Type 0
ClashRoom notes k = (i : ℕ) → i < k → get_or notes (DIFFERS + i) 0 ≡ 1 → get_or notes (LISTED_SLOTS + i) 0 < SLOTS

-- the parent p of the node in a slot, if it is listed
unfoldable pub parent_noted : List ℕ → ℕ → FullNodeId → Option FullNodeId
parent_noted notes slot p = if eqb (get_or notes (TURNS + get_or notes (ABOVE + slot) 0) 0) 0 then None else Some p
