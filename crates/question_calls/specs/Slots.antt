-- A node of the state in memory by its slot. Assumes nothing.
use Rattle.std.specs.Prelude.{true, List, ◌≡◌, ℕ, ◌<◌, ltb, if◌then◌else◌, Option, None, Some}
use Rattle.ids.specs.declared.FullNodeId.{FullNodeId}
use Rattle.state.specs.State.{Forest}
use Rattle.state.specs.Sound.{sound}
use Rattle.state_array.specs.View.{id_in, slots_of, view}

-- the state that the words stand for is sound
abbrev pub Sound : List ℕ → Type 0
Sound s = sound (view s).forest ≡ true

-- the node in a slot; none past the last
unfoldable pub slot_id : List ℕ → ℕ → Option FullNodeId
slot_id s r = if ltb r (slots_of s) then Some (id_in s r) else None

-- what is said of the node in slot i, where the state is sound and the slot holds a node
abbrev pub OfSlot : List ℕ → ℕ → (Forest → FullNodeId → Type 0) → Type 0
OfSlot s i P = Sound s → i < slots_of s → P (view s).forest (id_in s i)
