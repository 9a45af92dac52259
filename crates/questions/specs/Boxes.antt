-- Module 6, transform and bounding box: document 01, "Boxes". Assumes nothing.
use Rattle.std.specs.Prelude.{List, map, Option, None, Some}
use Rattle.ids.specs.declared.FullNodeId.{FullNodeId}
use Rattle.geometry.specs.declared.Rect.{Rect}
use Rattle.geometry.specs.declared.Affine.{Affine}
use Rattle.geometry_box.specs.declared.BoundingBox.{BoundingBox}
use Rattle.geometry_box.specs.declared.BoundingBox.TheVariants as box
use Rattle.geometry_box.specs.Boxes.{identity, chain, box_under}
use Rattle.record.specs.Batch.{bounds?, transform?}
use Rattle.state.specs.State.{Forest, find}
use Rattle.questions.specs.Links.{ancestors}

-- the node's own transform; the identity where it has none
unfoldable pub direct_transform : Forest → FullNodeId → Affine
direct_transform s x =
    elim (find x s.nodes) [ None ↦ identity | Some n ↦ elim (transform? n.body) [ None ↦ identity | Some t ↦ t ] ]

-- the own transforms of its ancestors, nearest first
unfoldable pub transforms_above : Forest → FullNodeId → List Affine
transforms_above s x = map (direct_transform s) (ancestors s x)

-- The transform: the parent's is multiplied on the left at each climb.
unfoldable pub transform : Forest → FullNodeId → Affine
transform s x = chain (direct_transform s x) (transforms_above s x)

-- the node's own bounds
unfoldable pub raw_bounds : Forest → FullNodeId → Option Rect
raw_bounds s x = elim (find x s.nodes) [ None ↦ None | Some n ↦ bounds? n.body ]

-- The bounding box: that of the bounds under the transforms; none without bounds, or where a number on the way is not finite.
unfoldable pub bounding_box : Forest → FullNodeId → BoundingBox
bounding_box s x = elim (raw_bounds s x) [ None ↦ box.None | Some r ↦ box_under (direct_transform s x) (transforms_above s x) r ]
