-- Transforms and boxes: document 01, section "Boxes", in its order. Each operation is binary64's and rounds once, left to right.
-- Assumes nothing.
use Rattle.std.specs.Prelude.{Bool, false, not, List, [], ◌∷◌, ◌++◌, Float, if◌then◌else◌}
use Rattle.std.specs.Float.{binary64}
use Rattle.std.specs.Float.Ieee.{add, sub, mul, lt, eq, of_bits}
use Rattle.base.specs.Tests.{◌and◌, all}
use Rattle.base.specs.Floats.{is_finite}
use Rattle.geometry.specs.declared.Rect.{Rect}
use Rattle.geometry.specs.declared.Affine.{Affine}
use Rattle.geometry_box.specs.declared.Point.{Point}
use Rattle.geometry_box.specs.declared.BoundingBox.{BoundingBox}
use Rattle.geometry_box.specs.declared.BoundingBox.TheVariants.{Box, None}

-- +0 and 1, by their bits
abbrev pub nought : Float
nought = of_bits binary64 0

abbrev pub one : Float
one = of_bits binary64 0x3ff0000000000000

-- the operations, each rounding once
abbrev pub plus : Float → Float → Float
plus x y = add binary64 x y

abbrev pub minus : Float → Float → Float
minus x y = sub binary64 x y

abbrev pub times : Float → Float → Float
times x y = mul binary64 x y

-- ## Transforms

-- u·x + v·y
unfoldable pub linear : Float → Float → Float → Float → Float
linear u x v y = plus (times u x) (times v y)

-- u·x + v·y + w
unfoldable pub shifted : Float → Float → Float → Float → Float → Float
shifted u x v y w = plus (linear u x v y) w

-- (a b c d e f) sends x to a·x + c·y + e and y to b·x + d·y + f
unfoldable pub image : Affine → Float → Float → Point
image t x y = record { x = shifted t.a x t.c y t.e; y = shifted t.b x t.d y t.f }

-- the transform of a node that has none
unfoldable pub identity : Affine
identity = record { a = one; b = nought; c = nought; d = one; e = nought; f = nought }

-- q first, then p, the parent's, which stands on the left
unfoldable pub product : Affine → Affine → Affine
product p q = record {
  a = linear p.a q.a p.c q.b;
  b = linear p.b q.a p.d q.b;
  c = linear p.a q.c p.c q.d;
  d = linear p.b q.c p.d q.d;
  e = shifted p.a q.e p.c q.f p.e;
  f = shifted p.b q.e p.d q.f p.f;
}

-- a node's own transform under its ancestors', nearest first: at each climb the parent's is multiplied on the left
unfoldable pub chain : Affine → List Affine → Affine
chain t [] = t
chain t (p ∷ ps) = chain (product p t) ps

-- ## The box

-- the lesser and the greater of two
unfoldable pub least : Float → Float → Float
least x y = if lt y x then y else x

unfoldable pub greatest : Float → Float → Float
greatest x y = if lt x y then y else x

-- x, with +0 for either zero
unfoldable pub with_plus_zero : Float → Float
with_plus_zero x = if eq x nought then nought else x

-- the least and the greatest of four, a zero as +0
unfoldable pub least_of : Float → Float → Float → Float → Float
least_of p q r s = with_plus_zero (least (least p q) (least r s))

unfoldable pub greatest_of : Float → Float → Float → Float → Float
greatest_of p q r s = with_plus_zero (greatest (greatest p q) (greatest r s))

-- the box of four points: their least and greatest coordinates
unfoldable pub box_of_points : Point → Point → Point → Point → BoundingBox
box_of_points p q r s =
    Box
    (least_of p.x q.x r.x s.x)
    (least_of p.y q.y r.y s.y)
    (greatest_of p.x q.x r.x s.x)
    (greatest_of p.y q.y r.y s.y)

-- f of the four corners of r under t
abbrev pub of_corners : {A : Type 0} → (Point → Point → Point → Point → A) → Affine → Rect → A
of_corners f t r = f (image t r.x0 r.y0) (image t r.x0 r.y1) (image t r.x1 r.y0) (image t r.x1 r.y1)

-- ## The numbers on the way to a box

-- to u·x + v·y, and to u·x + v·y + w
unfoldable pub way_of_linear : Float → Float → Float → Float → List Float
way_of_linear u x v y = u ∷ x ∷ v ∷ y ∷ times u x ∷ times v y ∷ linear u x v y ∷ []

unfoldable pub way_of_shifted : Float → Float → Float → Float → Float → List Float
way_of_shifted u x v y w = way_of_linear u x v y ++ (w ∷ shifted u x v y w ∷ [])

-- to where t sends (x, y)
unfoldable pub way_of_image : Affine → Float → Float → List Float
way_of_image t x y = way_of_shifted t.a x t.c y t.e ++ way_of_shifted t.b x t.d y t.f

-- to the product of p and q
unfoldable pub way_of_product : Affine → Affine → List Float
way_of_product p q =
    way_of_linear p.a q.a p.c q.b
    ++ way_of_linear p.b q.a p.d q.b
    ++ way_of_linear p.a q.c p.c q.d
    ++ way_of_linear p.b q.c p.d q.d
    ++ way_of_shifted p.a q.e p.c q.f p.e
    ++ way_of_shifted p.b q.e p.d q.f p.f

-- to the corners of r under t
unfoldable pub way_of_corners : Affine → Rect → List Float
way_of_corners t r = way_of_image t r.x0 r.y0 ++ way_of_image t r.x0 r.y1 ++ way_of_image t r.x1 r.y0 ++ way_of_image t r.x1 r.y1

-- to the corners of the bounds r of a node with the transform t, under its ancestors' transforms, nearest first
unfoldable pub way : Affine → List Affine → Rect → List Float
way t [] r = way_of_corners t r
way t (p ∷ ps) r = way_of_product p t ++ way (product p t) ps r

-- The box of the bounds r of a node with the transform t under its ancestors' transforms, nearest first: the least and greatest of the corners,
-- and none if any number on the way is not finite.
unfoldable pub box_under : Affine → List Affine → Rect → BoundingBox
box_under t ps r = if all is_finite (way t ps r) then of_corners box_of_points (chain t ps) r else None

-- ## The box by its corners alone, which is the same: proofs/Boxes `box_under_lem`

-- both coordinates of a point are finite, and of four points
unfoldable pub finite_point : Point → Bool
finite_point p = is_finite p.x and is_finite p.y

unfoldable pub finite_points : Point → Point → Point → Point → Bool
finite_points p q r s = finite_point p and finite_point q and finite_point r and finite_point s

-- the box of the bounds r under t: none if one of the eight coordinates of the corners is not finite
unfoldable pub box_of : Affine → Rect → BoundingBox
box_of t r = if of_corners finite_points t r then of_corners box_of_points t r else None

-- ## Intersections

-- x, cut at zero
unfoldable pub cut_at_zero : Float → Float
cut_at_zero x = if lt nought x then x else nought

-- the length of what the intervals from a to b and from c to d share, cut at zero
unfoldable pub overlap : Float → Float → Float → Float → Float
overlap a b c d = cut_at_zero (minus (least b d) (greatest a c))

-- an intersection is empty where its width times its height is zero; a product that is not a number is not zero
unfoldable pub is_empty : Float → Float → Bool
is_empty width height = eq (times width height) nought

-- both are boxes, and their intersection is empty
unfoldable pub apart : BoundingBox → BoundingBox → Bool
apart (Box x0 y0 x1 y1) (Box u0 v0 u1 v1) = is_empty (overlap x0 x1 u0 u1) (overlap y0 y1 v0 v1)
apart (Box x0 y0 x1 y1) None = false
apart None c = false

-- both are boxes, and their intersection is not empty
unfoldable pub meet : BoundingBox → BoundingBox → Bool
meet (Box x0 y0 x1 y1) (Box u0 v0 u1 v1) = not (is_empty (overlap x0 x1 u0 u1) (overlap y0 y1 v0 v1))
meet (Box x0 y0 x1 y1) None = false
meet None c = false
