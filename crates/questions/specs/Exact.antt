-- "Where transforms only shift and all bounds and shifts are whole and at most 2^20 in size, the box is exact": document 01, "Boxes", of a node
-- of a state. proofs/Exact `exact_bounding_box` is the rule. Assumes nothing.
use Rattle.std.specs.Prelude.{◌∷◌, ◌≡◌, ℤ, Some}
use Rattle.ids.specs.declared.FullNodeId.{FullNodeId}
use Rattle.geometry.specs.declared.Rect.{Rect}
use Rattle.geometry_box.specs.Exact.{Shifts, Bounds}
use Rattle.state.specs.State.{Forest}
use Rattle.questions.specs.Boxes.{direct_transform, transforms_above, raw_bounds}

-- the node has these bounds, and its transform and its ancestors' only shift, together x by u and y by v
pub record OnlyShifted (s : Forest) (x : FullNodeId) (x0 y0 x1 y1 u v : ℤ) : Type 0 where
  pub bounds : Rect
  pub given : raw_bounds s x ≡ Some bounds
  pub whole : Bounds bounds x0 y0 x1 y1
  pub shifts : Shifts (direct_transform s x ∷ transforms_above s x) u v
