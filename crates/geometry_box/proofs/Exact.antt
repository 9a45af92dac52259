-- Where transforms only shift, and all bounds and shifts are whole and at most 2 ^ 20 in size, the box of a node at most 256 deep is exact: `exact_box_lem`.
-- Assumes nothing.
use mathlib.Core.Path.{◌≡◌, refl, sym, ◌∙◌}
use mathlib.Core.Bool.{Bool, true, false}
use mathlib.Core.List.{List, [], ◌∷◌}
use Prim.Native.Nat.{ℕ, ◌+◌, ◌*◌, ◌^◌, ◌<◌, ◌≤◌}
use native.Mathlib.Omega.{arith}
use lib.Dec.{T, lit≤}
use lib.IntN.{ℤ, pos, nat_abs, ◌+ℤ◌, +ℤ_idr, +ℤ_idl, +ℤ_assoc}
use lib.ListN.{length}
use lib.Ieee.{Float, binary64, lt, eq, of_bits, of_int, fits}
use lib.Ieee.Exact.{HasValue}
use lib.Ieee.Fits.{add-fits}
use Rattle.std.specs.Prelude.{if◌then◌else◌}
use Rattle.base.specs.Tests.{◌and◌}
use Rattle.base.specs.Floats.{same_value}
use Rattle.base.proofs.Finite.{same_value_finite}
use Rattle.geometry.specs.declared.Rect.{Rect}
use Rattle.geometry.specs.declared.Affine.{Affine}
use Rattle.geometry_box.specs.Boxes.{nought, one, linear, shifted, image, identity, product, chain, least, greatest, least_of, greatest_of, box_of_points, box_under, finite_point, finite_points, box_of}
use Rattle.geometry_box.specs.Exact.{Whole, Shift, Shifts, none, more, Bounds, leastℤ, greatestℤ, exact_box}
use Rattle.geometry_box.proofs.Boxes.{box_under_lem}
use Rattle.geometry_box.proofs.Whole.{Valued, recast, valued, add_valued, one_valued, zero_valued, lt_valued, valued_finite, plus_zero_valued, sum_size, sign_of, of_int_value, of_int_finite}

-- ## One transform

-- t shifts by (u, v), which are at most k in size
record Moves (t : Affine) (u v : ℤ) (k : ℕ) : Type 0 where
  a : Valued t.a (pos 1) 1
  b : Valued t.b (pos 0) 0
  c : Valued t.c (pos 0) 0
  d : Valued t.d (pos 1) 1
  e : Valued t.e u k
  f : Valued t.f v k

whole_valued : {x : Float} {z : ℤ} → Whole x z → Valued x z (2 ^ 20)
whole_valued w = valued w.value w.small (lit≤ tt)

one_is : {x : Float} → same_value x one ≡ true → Valued x (pos 1) 1
unfolding of_bits of_int
one_is e = valued e (lit≤ tt) (lit≤ tt)

zero_is : {x : Float} → same_value x nought ≡ true → Valued x (pos 0) 0
unfolding of_bits of_int
zero_is e = valued e (lit≤ tt) (lit≤ tt)

shift_moves : {t : Affine} {u v : ℤ} → Shift t u v → Moves t u v (2 ^ 20)
shift_moves s = record { a = one_is s.a; b = zero_is s.b; c = zero_is s.c; d = one_is s.d; e = whole_valued s.e; f = whole_valued s.f }

-- 1 x + 0 y, and 0 x + 1 y
first_picked : {a x c y : Float} {z w : ℤ} {j k : ℕ} → Valued a (pos 1) 1 → Valued c (pos 0) 0 → Valued x z j → Valued y w k → j ≤ 2 ^ 53 → Valued (linear a x c y) z j
unfolding linear
first_picked {z = z} a c x y h = recast (add_valued (one_valued a x h) (zero_valued c y) (omega arith)) (+ℤ_idr z) (omega arith)

second_picked : {b x d y : Float} {z w : ℤ} {j k : ℕ} → Valued b (pos 0) 0 → Valued d (pos 1) 1 → Valued x z j → Valued y w k → k ≤ 2 ^ 53 → Valued (linear b x d y) w k
unfolding linear
second_picked {w = w} b d x y h = recast (add_valued (zero_valued b x) (one_valued d y h) (omega arith)) (+ℤ_idl w) (omega arith)

module _ {t : Affine} {u v z w : ℤ} {x y : Float} {i j k : ℕ} (m : Moves t u v k) (a : Valued x z i) (b : Valued y w j) where
  moved_x : i + k ≤ 2 ^ 53 → Valued (shifted t.a x t.c y t.e) (z +ℤ u) (i + k)
  unfolding shifted
  moved_x h = add_valued (first_picked m.a m.c a b (omega arith)) m.e h

  moved_y : j + k ≤ 2 ^ 53 → Valued (shifted t.b x t.d y t.f) (w +ℤ v) (j + k)
  unfolding shifted
  moved_y h = add_valued (second_picked m.b m.d a b (omega arith)) m.f h

-- ## A chain of them

product_moves : {p q : Affine} {u v x y : ℤ} {j k : ℕ} → Moves p u v j → Moves q x y k → k + j ≤ 2 ^ 53 → Moves (product p q) (x +ℤ u) (y +ℤ v) (k + j)
unfolding product
product_moves s t h =
    record {
      a = first_picked s.a s.c t.a t.b (lit≤ tt);
      b = second_picked s.b s.d t.a t.b (lit≤ tt);
      c = first_picked s.a s.c t.c t.d (lit≤ tt);
      d = second_picked s.b s.d t.c t.d (lit≤ tt);
      e = moved_x s t.e t.f h;
      f = moved_y s t.e t.f h;
    }

recast_moves : {t : Affine} {u v x y : ℤ} {j k : ℕ} → Moves t u v j → u ≡ x → v ≡ y → j ≤ k → Moves t x y k
recast_moves s p q h = record { a = s.a; b = s.b; c = s.c; d = s.d; e = recast s.e p h; f = recast s.f q h }

chain_moves : (t : Affine) (ps : List Affine) {u v x y : ℤ} {k : ℕ} → Moves t u v k → Shifts ps x y → k + length ps * 2 ^ 20 ≤ 2 ^ 53
    → Moves (chain t ps) (u +ℤ x) (v +ℤ y) (k + length ps * 2 ^ 20)
unfolding chain
chain_moves t [] {u} {v} s none h = recast_moves s (sym (+ℤ_idr u)) (sym (+ℤ_idr v)) (omega arith)
chain_moves t (p ∷ ps) {u} {v} s (more {u = u₁} {v = v₁} {x = x₁} {y = y₁} r rs) h =
    recast_moves
    (chain_moves (product p t) ps (product_moves (shift_moves r) s (omega arith)) rs (omega arith))
    (+ℤ_assoc u u₁ x₁)
    (+ℤ_assoc v v₁ y₁)
    (omega arith)

-- ## The box

-- a coordinate of a corner: a sum, so written in the one way
record Coordinate (x : Float) (z : ℤ) (k : ℕ) : Type 0 where
  value : Valued x z k
  fit : T (fits binary64 x)

shifted_fits : (u x v y w : Float) → T (fits binary64 (shifted u x v y w))
unfolding shifted
shifted_fits u x v y w = add-fits binary64 (linear u x v y) w

picked : {x y : Float} {z w : ℤ} {k : ℕ} (b : Bool) → Coordinate x z k → Coordinate y w k → Coordinate (if b then x else y) (if b then z else w) k
picked true p q = p
picked false p q = q

least_coordinate : {x y : Float} {z w : ℤ} {k : ℕ} → Coordinate x z k → Coordinate y w k → Coordinate (least x y) (leastℤ z w) k
unfolding least
least_coordinate {x} {y} p q = rw (← lt_valued q.value p.value) (picked (lt y x) q p)

greatest_coordinate : {x y : Float} {z w : ℤ} {k : ℕ} → Coordinate x z k → Coordinate y w k → Coordinate (greatest x y) (greatestℤ z w) k
unfolding greatest
greatest_coordinate {x} {y} p q = rw (← lt_valued p.value q.value) (picked (lt x y) q p)

module _ {p q r s : Float} {a b c d : ℤ} {k : ℕ} (h : k ≤ 2 ^ 53) (A : Coordinate p a k) (B : Coordinate q b k) (C : Coordinate r c k) (D : Coordinate s d k) where
  least_of_lem : least_of p q r s ≡ of_int binary64 (leastℤ (leastℤ a b) (leastℤ c d))
  unfolding least_of
  least_of_lem = let m = least_coordinate (least_coordinate A B) (least_coordinate C D) in plus_zero_valued m.value m.fit h

  greatest_of_lem : greatest_of p q r s ≡ of_int binary64 (greatestℤ (greatestℤ a b) (greatestℤ c d))
  unfolding greatest_of
  greatest_of_lem = let m = greatest_coordinate (greatest_coordinate A B) (greatest_coordinate C D) in plus_zero_valued m.value m.fit h

-- of a number and itself
same : (b : Bool) (z : ℤ) → (if b then z else z) ≡ z
same true z = refl
same false z = refl

-- the box of whole bounds under a transform that only shifts
shift_box : {t : Affine} {r : Rect} {u v x0 y0 x1 y1 : ℤ} {k : ℕ} → Moves t u v k → Bounds r x0 y0 x1 y1 → 2 ^ 20 + k ≤ 2 ^ 53 → box_of t r ≡ exact_box x0 y0 x1 y1 u v
unfolding box_of box_of_points finite_points finite_point image exact_box ◌and◌
shift_box {t} {r} {u} {v} {x0} {y0} {x1} {y1} {k} m b h =
    let px = at_x b.left b.top in
    let py = at_y b.left b.top in
    let qx = at_x b.left b.bottom in
    let qy = at_y b.left b.bottom in
    let sx = at_x b.right b.top in
    let sy = at_y b.right b.top in
    let tx = at_x b.right b.bottom in
    let ty = at_y b.right b.bottom in
    rw (valued_finite px.value, valued_finite py.value, valued_finite qx.value, valued_finite qy.value, valued_finite sx.value, valued_finite sy.value, valued_finite tx.value, valued_finite ty.value, least_of_lem h px qx sx tx, least_of_lem h py qy sy ty, greatest_of_lem h px qx sx tx, greatest_of_lem h py qy sy ty)
    (simp same)
  where
    at_x : {x y : Float} {z w : ℤ} → Whole x z → Whole y w → Coordinate (shifted t.a x t.c y t.e) (z +ℤ u) (2 ^ 20 + k)
    at_x {x} {y} p q = record { value = moved_x m (whole_valued p) (whole_valued q) h; fit = shifted_fits t.a x t.c y t.e }

    at_y : {x y : Float} {z w : ℤ} → Whole x z → Whole y w → Coordinate (shifted t.b x t.d y t.f) (w +ℤ v) (2 ^ 20 + k)
    at_y {x} {y} p q = record { value = moved_y m (whole_valued p) (whole_valued q) h; fit = shifted_fits t.b x t.d y t.f }

-- The box of the bounds r of a node with the transform t under its ancestors' transforms ps is exact, where all of these only shift.
pub exact_box_lem : (t : Affine) (ps : List Affine) (r : Rect) {u v x0 y0 x1 y1 : ℤ} → Shifts (t ∷ ps) u v → length ps < 256 → Bounds r x0 y0 x1 y1
    → box_under t ps r ≡ exact_box x0 y0 x1 y1 u v
exact_box_lem t ps r (more own above) few b = box_under_lem t ps r ∙ shift_box (chain_moves t ps (shift_moves own) above (omega arith)) b (omega arith)

-- Each coordinate of that box is a sum that an f64 holds: the shifts of at most 256 transforms, and a bound.
pub shifts_size : {ps : List Affine} {u v : ℤ} → Shifts ps u v → (nat_abs u ≤ length ps * 2 ^ 20) × (nat_abs v ≤ length ps * 2 ^ 20)
shifts_size none = (lit≤ tt, lit≤ tt)
shifts_size (more {u = u} {v = v} {x = x} {y = y} s rs) =
    let small = shifts_size rs in
    (omega (arith, sum_size u x, s.e.small, small.0), omega (arith, sum_size v y, s.f.small, small.1))

pub exact_value : (z u : ℤ) → nat_abs z ≤ 2 ^ 20 → nat_abs u ≤ 256 * 2 ^ 20 → HasValue (of_int binary64 (z +ℤ u)) (sign_of (z +ℤ u)) (nat_abs (z +ℤ u)) 1
exact_value z u h k = of_int_value (z +ℤ u) (omega (arith, sum_size z u))

-- ## Floats and transforms of which the rule speaks

-- the float of any integer of at most 2 ^ 20 in size, and -0
pub whole_of_int : (z : ℤ) → nat_abs z ≤ 2 ^ 20 → Whole (of_int binary64 z) z
whole_of_int z h = record { value = same_value_finite (of_int binary64 z) (of_int_finite z (omega arith)); small = h }

pub minus_zero : Whole (of_bits binary64 (2 ^ 63)) (pos 0)
unfolding same_value eq of_bits of_int
minus_zero = record { value = refl; small = lit≤ tt }

-- the transform of a node that has none shifts by nothing
pub identity_shift : Shift identity (pos 0) (pos 0)
unfolding identity same_value eq of_bits of_int
identity_shift = record { a = refl; b = refl; c = refl; d = refl; e = record { value = refl; small = lit≤ tt }; f = record { value = refl; small = lit≤ tt } }

-- the identity with any two whole numbers for its shift
pub shift_by : {e f : Float} {u v : ℤ} → Whole e u → Whole f v → Shift (record { a = one; b = nought; c = nought; d = one; e = e; f = f }) u v
unfolding same_value eq of_bits
shift_by p q = record { a = refl; b = refl; c = refl; d = refl; e = p; f = q }
