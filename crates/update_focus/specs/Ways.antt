-- What the steps of the way through the grafts answer. Assumes nothing.
use Rattle.std.specs.Prelude.{Option, None, Some}
use Rattle.ids.specs.declared.TreeId.{TreeId}
use Rattle.ids.specs.declared.FullNodeId.{FullNodeId}
use Rattle.state.specs.State.{Forest, graft_at, subtree_of}

-- the focus of a tree, if the tree exists
unfoldable pub focus_of : Forest → TreeId → Option FullNodeId
focus_of s t = elim (subtree_of s t) [ None ↦ None | Some u ↦ Some u.focus ]

-- the node after x: the focus of the tree that x grafts
unfoldable pub way_after : Forest → FullNodeId → Option FullNodeId
way_after s x = elim (graft_at s.nodes x) [ None ↦ None | Some t ↦ focus_of s t ]
