-- Where transforms only shift, and all bounds and shifts are whole and at most 2 ^ 20 in size, the box is exact: document 01, section "Boxes".
-- The words of that rule; proofs/Exact `exact_box_lem` is the rule. Assumes nothing.
use Rattle.std.specs.Prelude.{Bool, true, false, List, [], ◌∷◌, ◌≡◌, ◌^◌, ◌≤◌, ltb, ℤ, pos, negsuc, nat_abs, ◌+ℤ◌, Float, if◌then◌else◌}
use Rattle.std.specs.Float.{binary64}
use Rattle.std.specs.Float.Ieee.{of_int}
use Rattle.base.specs.Floats.{same_value}
use Rattle.geometry.specs.declared.Rect.{Rect}
use Rattle.geometry.specs.declared.Affine.{Affine}
use Rattle.geometry_box.specs.declared.BoundingBox.{BoundingBox}
use Rattle.geometry_box.specs.declared.BoundingBox.TheVariants.{Box}
use Rattle.geometry_box.specs.Boxes.{nought, one}

-- x is by value the whole number z, at most 2 ^ 20 in size; -0 is 0
pub record Whole (x : Float) (z : ℤ) : Type 0 where
  pub value : same_value x (of_int binary64 z) ≡ true
  pub small : nat_abs z ≤ 2 ^ 20

-- t only shifts, x by u and y by v
pub record Shift (t : Affine) (u v : ℤ) : Type 0 where
  pub a : same_value t.a one ≡ true
  pub b : same_value t.b nought ≡ true
  pub c : same_value t.c nought ≡ true
  pub d : same_value t.d one ≡ true
  pub e : Whole t.e u
  pub f : Whole t.f v

-- each of these transforms only shifts, and together they shift x by u and y by v
pub data Shifts : List Affine → ℤ → ℤ → Type 0 where
  none : Shifts [] (pos 0) (pos 0)
  more : {p : Affine} {ps : List Affine} {u v x y : ℤ} → Shift p u v → Shifts ps x y → Shifts (p ∷ ps) (u +ℤ x) (v +ℤ y)

-- the bounds r are these whole numbers
pub record Bounds (r : Rect) (x0 y0 x1 y1 : ℤ) : Type 0 where
  pub left : Whole r.x0 x0
  pub top : Whole r.y0 y0
  pub right : Whole r.x1 x1
  pub bottom : Whole r.y1 y1

-- whether z is less than w
abbrev pub ltℤ : ℤ → ℤ → Bool
ltℤ (pos a) (pos b) = ltb a b
ltℤ (pos a) (negsuc b) = false
ltℤ (negsuc a) (pos b) = true
ltℤ (negsuc a) (negsuc b) = ltb b a

-- the lesser and the greater of two
abbrev pub leastℤ : ℤ → ℤ → ℤ
leastℤ z w = if ltℤ w z then w else z

abbrev pub greatestℤ : ℤ → ℤ → ℤ
greatestℤ z w = if ltℤ z w then w else z

-- the box of bounds that are whole numbers, shifted by (u, v): each coordinate is a sum in ℤ
unfoldable pub exact_box : ℤ → ℤ → ℤ → ℤ → ℤ → ℤ → BoundingBox
exact_box x0 y0 x1 y1 u v =
    Box
    (of_int binary64 (leastℤ (x0 +ℤ u) (x1 +ℤ u)))
    (of_int binary64 (leastℤ (y0 +ℤ v) (y1 +ℤ v)))
    (of_int binary64 (greatestℤ (x0 +ℤ u) (x1 +ℤ u)))
    (of_int binary64 (greatestℤ (y0 +ℤ v) (y1 +ℤ v)))
