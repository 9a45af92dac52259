-- Going down from the root, and climbing by the recorded parents: document 01, "The update", "A state is sound".
-- Assumes nothing.
use Rattle.std.specs.Prelude.{List, [], ◌∷◌, ◌++◌, ℕ, zero, suc, length, Option, None, Some}
use Rattle.ids.specs.Ids.{ROOT}
use Rattle.ids.specs.declared.NodeId.{NodeId}
use Rattle.ids.specs.declared.FullNodeId.{FullNodeId}
use Rattle.record.specs.Batch.{graft?}
use Rattle.state.specs.State.{ParentAndIndex, NodeState, Forest, find, link_at, subtree_of}

-- A node as it is met on the way down: its id, and the link under which it is met.
pub record Met : Type 0 where
  pub id : FullNodeId
  pub link : Option ParentAndIndex

-- x met under p at place i
unfoldable pub met_under : FullNodeId → ℕ → FullNodeId → Met
met_under p i x = record { id = x; link = Some (record { parent = p; index = i }) }

-- the children of p, in its tree, from place i on
unfoldable pub children_met : FullNodeId → ℕ → List NodeId → List Met
children_met p i [] = []
children_met p i (c ∷ cs) = met_under p i (record { tree = p.tree; node = c }) ∷ children_met p (suc i) cs

-- What is met one step below a node: its children; of a graft, its tree's root, if that tree exists.
unfoldable pub below : Forest → NodeState → List Met
below s n =
    elim (graft? n.body) [
      | None ↦ children_met n.id 0 n.body.children
      | Some t ↦ elim (subtree_of s t) [ None ↦ [] | Some u ↦ met_under n.id 0 u.root ∷ [] ]
    ]

-- the same of an id; nothing where it is absent
unfoldable pub below_id : Forest → FullNodeId → List Met
below_id s x = elim (find x s.nodes) [ None ↦ [] | Some n ↦ below s n ]

-- Everything met going down from a list of nodes, parents before children, at most `room` of them.
unfoldable pub down : ℕ → Forest → List Met → List Met
down zero s ms = []
down (suc room) s [] = []
down (suc room) s (m ∷ ms) = m ∷ down room s (below_id s m.id ++ ms)

-- ROOT's root
unfoldable pub root_of : Forest → Option FullNodeId
root_of s = elim (subtree_of s ROOT) [ None ↦ None | Some u ↦ Some u.root ]

-- The way down: everything met going down from the root, with room for one more than the nodes that there are.
unfoldable pub way_down : Forest → List Met
way_down s =
    elim (root_of s) [
      | None ↦ []
      | Some r ↦ down (suc (length s.nodes)) s (record { id = r; link = None } ∷ [])
    ]

-- climbing k steps by the recorded parents
unfoldable pub climb : ℕ → List NodeState → FullNodeId → FullNodeId
climb zero ns x = x
climb (suc k) ns x = elim (link_at ns x) [ None ↦ x | Some l ↦ climb k ns l.parent ]
