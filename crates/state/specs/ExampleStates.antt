-- States written short, for worked examples.
-- Assumes nothing.
use Rattle.std.specs.Prelude.{true, List, ℕ, None, Some}
use Rattle.ids.specs.declared.TreeId.{TreeId}
use Rattle.ids.specs.declared.FullNodeId.{FullNodeId}
use Rattle.record.specs.Batch.{NodeData}
use Rattle.record.specs.ExampleNodes.{node}
use Rattle.state.specs.State.{NodeState, TreeEntry, State}

-- node n of tree number t
abbrev pub id : ℕ → ℕ → FullNodeId
id t n = record { tree = record { 0 = t }; node = record { 0 = n } }

abbrev pub root : ℕ → ℕ → NodeData → NodeState
root t n d = record { id = id t n; parent_and_index = None; body = d }

-- a node under a parent, at a place among its children
abbrev pub under : FullNodeId → ℕ → FullNodeId → NodeData → NodeState
under p i x d = record { id = x; parent_and_index = Some (record { parent = p; index = i }); body = d }

-- a tree with its root and focus; one that does not exist
abbrev pub tree : TreeId → ℕ → ℕ → TreeEntry
tree t r f = record { id = t; subtree = Some (record { root = node r; focus = node f }) }

abbrev pub no_tree : TreeId → TreeEntry
no_tree t = record { id = t; subtree = None }

abbrev pub state : List NodeState → List TreeEntry → State
state ns ts = record { forest = record { nodes = ns; trees = ts }; host_focused = true }
