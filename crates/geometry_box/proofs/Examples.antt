-- Worked examples of transforms and boxes, which antt computes. Assumes nothing.
use mathlib.Core.Bool.{true, false}
use mathlib.Core.List.{[], ◌∷◌}
use mathlib.Core.Path.{◌≡◌, refl}
use Prim.Native.Nat.{◌^◌}
use lib.IntN.{ℤ, pos, negsuc}
use lib.Ieee.{Float, nan, inf, neg, add, sub, mul, lt, eq, of_bits, of_int, binary64}
use Rattle.base.specs.Tests.{◌and◌}
use Rattle.geometry.specs.declared.Rect.{Rect}
use Rattle.geometry.specs.declared.Affine.{Affine}
use Rattle.geometry_box.specs.declared.BoundingBox.{BoundingBox}
use Rattle.geometry_box.specs.declared.BoundingBox.TheVariants.{Box, None}
use Rattle.geometry_box.specs.Boxes.{nought, one, times, linear, shifted, image, identity, product, chain, least, greatest, with_plus_zero, least_of, greatest_of, box_of_points, way_of_linear, way_of_shifted, way_of_image, way_of_product, way_of_corners, way, box_under, finite_point, finite_points, box_of, cut_at_zero, overlap, is_empty, apart}

-- all that these examples compute with
computed : Unit {0}
unfolding linear shifted image identity product chain least greatest with_plus_zero least_of greatest_of box_of_points way_of_linear way_of_shifted way_of_image way_of_product way_of_corners way box_under finite_point finite_points box_of cut_at_zero overlap is_empty apart ◌and◌ neg add sub mul lt eq of_bits of_int
computed = tt

abbrev minus_zero : Float
minus_zero = of_bits binary64 (2 ^ 63)

-- the greatest f64, and 2 ^ 400
abbrev huge : Float
huge = of_bits binary64 0x7fefffffffffffff

abbrev large : Float
large = of_int binary64 (pos (2 ^ 400))

-- whole numbers
abbrev up : ℤ → Float
up n = of_int binary64 n

-- bounds, and a box, of whole numbers
abbrev bounds : ℤ → ℤ → ℤ → ℤ → Rect
bounds a b c d = record { x0 = up a; y0 = up b; x1 = up c; y1 = up d }

abbrev box : ℤ → ℤ → ℤ → ℤ → BoundingBox
box a b c d = Box (up a) (up b) (up c) (up d)

abbrev shift : Float → Float → Affine
shift e f = record { a = one; b = nought; c = nought; d = one; e = e; f = f }

abbrev scale : Float → Affine
scale k = record { a = k; b = nought; c = nought; d = k; e = nought; f = nought }

-- by 90 degrees: (x, y) goes to (-y, x)
abbrev quarter : Affine
quarter = record { a = nought; b = one; c = neg one; d = nought; e = nought; f = nought }

-- (x, y) goes to (x - y, x + y)
abbrev tilt : Affine
tilt = record { a = one; b = one; c = neg one; d = one; e = nought; f = nought }

-- each of the four corners has a coordinate of the box that no other has
tilted : box_under tilt [] (bounds (pos 0) (pos 0) (pos 2) (pos 1)) ≡ box (negsuc 0) (pos 0) (pos 2) (pos 3)
unfolding computed
tilted = refl

turned : box_under quarter [] (bounds (pos 0) (pos 0) (pos 2) (pos 1)) ≡ box (negsuc 0) (pos 0) (pos 0) (pos 2)
unfolding computed
turned = refl

-- the parent's transform comes last: a shift in a turned parent is turned, and the parent's own shift is not
turned_child : box_under (shift (up (pos 10)) nought) (quarter ∷ shift nought (up (pos 3)) ∷ []) (bounds (pos 0) (pos 0) (pos 2) (pos 1)) ≡ box (negsuc 0) (pos 13) (pos 0) (pos 15)
unfolding computed
turned_child = refl

-- a zero is handed out as +0
plus_zero : box_under (shift minus_zero minus_zero) [] (record { x0 = minus_zero; y0 = minus_zero; x1 = minus_zero; y1 = minus_zero }) ≡ Box nought nought nought nought
unfolding computed
plus_zero = refl

-- 2 ^ 400 three times is past the greatest f64: no box at the third level, and none further up, where it is scaled back
scaled : box_under (scale large) (scale large ∷ []) (bounds (pos 0) (pos 0) (pos 1) (pos 1)) ≡ box (pos 0) (pos 0) (pos (2 ^ 800)) (pos (2 ^ 800))
unfolding computed
scaled = refl

overflows : box_under (scale large) (scale large ∷ scale large ∷ []) (bounds (pos 0) (pos 0) (pos 1) (pos 1)) ≡ None
unfolding computed
overflows = refl

overflowed : box_under (scale large) (scale large ∷ scale large ∷ scale nought ∷ []) (bounds (pos 0) (pos 0) (pos 1) (pos 1)) ≡ None
unfolding computed
overflowed = refl

-- by the corners alone it is the same
by_corners : box_of (chain (scale large) (scale large ∷ scale large ∷ scale nought ∷ [])) (bounds (pos 0) (pos 0) (pos 1) (pos 1)) ≡ None
unfolding computed
by_corners = refl

-- boxes that share a corner's square, an edge alone, nothing
meetings :
    (apart (box (pos 0) (pos 0) (pos 2) (pos 2)) (box (pos 1) (pos 1) (pos 3) (pos 3)) ≡ false)
    × (apart (box (pos 0) (pos 0) (pos 2) (pos 2)) (box (pos 2) (pos 0) (pos 3) (pos 2)) ≡ true)
    × (apart (box (pos 0) (pos 0) (pos 2) (pos 2)) (box (pos 3) (pos 3) (pos 4) (pos 4)) ≡ true)
unfolding computed
meetings = (refl, refl, refl)

-- of two lengths below zero the product is not a common part
both_cut : overlap (up (pos 0)) (up (pos 1)) (up (pos 2)) (up (pos 3)) ≡ nought
unfolding computed
both_cut = refl

-- a box of no width lies apart from every box, itself too, where the height in common is finite
no_width :
    (apart (box (pos 1) (pos 0) (pos 1) (pos 2)) (box (pos 0) (pos 0) (pos 2) (pos 2)) ≡ true)
    × (apart (box (pos 1) (pos 0) (pos 1) (pos 2)) (box (pos 1) (pos 0) (pos 1) (pos 2)) ≡ true)
unfolding computed
no_width = (refl, refl)

-- a width past the greatest f64 times no height is not a number, and so not zero
not_a_number :
    (overlap (neg huge) huge (neg huge) huge ≡ inf false)
    × (times (inf false) nought ≡ nan)
    × (apart (Box (neg huge) nought huge nought) (Box (neg huge) nought huge one) ≡ false)
unfolding computed
not_a_number = (refl, refl, refl)

-- where there is no box, nothing is apart
no_box : (apart None (box (pos 0) (pos 0) (pos 1) (pos 1)) ≡ false) × (apart (box (pos 0) (pos 0) (pos 1) (pos 1)) None ≡ false) × (apart None None ≡ false)
unfolding computed
no_box = (refl, refl, refl)
