-- The nodes after a batch, and where the children of each come from. Assumes nothing.
use Rattle.std.specs.Prelude.{List, ℕ, ◌+◌, ◌-◌, ltb, if◌then◌else◌}
use Rattle.ids.specs.declared.NodeId.{NodeId}
use Rattle.record.specs.Parse.{batch_of}
use Rattle.record_reader.specs.Reader.{listed_at}
use Rattle.state.specs.State.{NodeState}
use Rattle.state_array.specs.Layout.{SLOTS, child}
use Rattle.state_array.specs.View.{id_in, shape_in, node_in, view}
use Rattle.update.specs.Outcome.{outcome}
use Rattle.calls.specs.declared.notes.Scope.{Scope}
use Rattle.calls.specs.Setting.{asked, forest}

-- the nodes after a batch
abbrev pub nodes_after : List ℕ → List ℕ → Scope → List NodeState
nodes_after state bytes c = (outcome (forest state) (asked bytes c)).nodes

-- the children that a source names: a slot's node or a listed one
unfoldable pub source_children : List ℕ → List ℕ → ℕ → List NodeId
source_children state bytes source = if ltb source SLOTS then (node_in state source).body.children else (listed_at (batch_of bytes) (source - SLOTS)).body.children

-- child j of the node in a slot
abbrev pub slot_child : List ℕ → ℕ → ℕ → NodeId
slot_child state slot j = record { 0 = child state (id_in state slot).node.0 ((shape_in state slot).first_child + j) }

-- the host flag as a word
abbrev pub host_word : List ℕ → ℕ
host_word state = if (view state).host_focused then 1 else 0
