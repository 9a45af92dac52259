-- Module 6, links: children, siblings, ancestors, the inherited hidden flag. The parent is state/State `parent_at`: a pane's root has its graft node.
-- Assumes nothing.
use Rattle.std.specs.Prelude.{Bool, false, ◌||◌, List, [], ◌∷◌, map, reverse, ℕ, zero, suc, length, take, drop, None, Some}
use Rattle.base.specs.Tests.{any}
use Rattle.ids.specs.declared.FullNodeId.{FullNodeId}
use Rattle.record.specs.Batch.{hidden}
use Rattle.state.specs.State.{NodeState, Forest, find, link_at, parent_at}
use Rattle.state.specs.Down.{below_id}
use Rattle.questions.specs.declared.Side.{Side}
use Rattle.questions.specs.declared.Side.TheVariants.{Following, Preceding}

-- ## Down and aside

-- the children, in order; of a graft its tree's root, if that tree exists
unfoldable pub child_ids : Forest → FullNodeId → List FullNodeId
child_ids s x = map (λ m. m.id) (below_id s x)

-- of a list, what stands on one side of place i, nearest first
unfoldable pub beside : Side → ℕ → List FullNodeId → List FullNodeId
beside Following i xs = drop (suc i) xs
beside Preceding i xs = reverse (take i xs)

-- the siblings on one side, nearest first; none where no parent is recorded
unfoldable pub siblings : Side → Forest → FullNodeId → List FullNodeId
siblings side s x = elim (link_at s.nodes x) [ None ↦ [] | Some l ↦ beside side l.index (child_ids s l.parent) ]

-- ## Up

-- the parent, its parent and so on, nearest first: at most `room` of them
unfoldable pub ancestors_within : ℕ → List NodeState → FullNodeId → List FullNodeId
ancestors_within zero ns x = []
ancestors_within (suc room) ns x = elim (parent_at ns x) [ None ↦ [] | Some p ↦ p ∷ ancestors_within room ns p ]

-- All of them, up to ROOT's root. A sound state has fewer than it has nodes (proofs/Links, `ancestors_few`).
unfoldable pub ancestors : Forest → FullNodeId → List FullNodeId
ancestors s x = ancestors_within (length s.nodes) s.nodes x

-- the node's own hidden flag
unfoldable pub hidden_at : Forest → FullNodeId → Bool
hidden_at s x = elim (find x s.nodes) [ None ↦ false | Some n ↦ hidden n.body ]

-- The inherited hidden flag: that of the node, or of one of its ancestors.
unfoldable pub is_hidden : Forest → FullNodeId → Bool
is_hidden s x = hidden_at s x || any (hidden_at s) (ancestors s x)
