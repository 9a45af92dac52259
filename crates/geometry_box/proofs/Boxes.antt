-- Laws of boxes. A number that is not finite stays so in every sum and product that it enters, so the numbers on the way to a box are finite
-- where the corners are, and the box under a list of transforms is the box by its corners: `box_under_lem`. Assumes nothing.
use mathlib.Core.Bool.{Bool, true, false, cond, false≢true}
use mathlib.Core.List.{List, [], ◌∷◌, ◌++◌}
use mathlib.Core.Path.{◌≡◌, refl, sym, ap, ◌∙◌}
use lib.Dec.{eqb}
use lib.Ieee.{Float, nan, inf, fin, binary64, unlike, add, mul}
use Rattle.base.specs.Tests.{◌and◌, all}
use Rattle.base.specs.Floats.{is_finite}
use Rattle.base.proofs.Tests.{both, joined, and_assoc, iff}
use Rattle.geometry.specs.Geometry.{affine_test, finite_affine}
use Rattle.geometry.specs.declared.Rect.{Rect}
use Rattle.geometry.specs.declared.Affine.{Affine}
use Rattle.geometry_box.specs.Boxes.{times, linear, shifted, image, product, chain, of_corners, way_of_linear, way_of_shifted, way_of_image, way_of_product, way_of_corners, way, box_under, finite_point, finite_points, box_of}

-- a test of each element of two lists
all_append : {A : Type 0} (p : A → Bool) (xs ys : List A) → all p (xs ++ ys) ≡ all p xs and all p ys
unfolding ◌and◌
all_append p [] ys = refl
all_append p (x ∷ xs) ys = ap (λ (b : Bool). p x and b) (all_append p xs ys) ∙ sym (and_assoc (p x) (all p xs) (all p ys))

-- ## Sums and products

-- x is finite
abbrev Fine : Float → Type 0
Fine x = is_finite x ≡ true

-- a sum that is finite has finite operands
pub add_finite : (x y : Float) → Fine (add binary64 x y) → Fine x × Fine y
unfolding add
add_finite nan y e = absurd (false≢true e)
add_finite (inf s) nan e = absurd (false≢true e)
add_finite (inf true) (inf true) e = absurd (false≢true e)
add_finite (inf true) (inf false) e = absurd (false≢true e)
add_finite (inf false) (inf true) e = absurd (false≢true e)
add_finite (inf false) (inf false) e = absurd (false≢true e)
add_finite (inf s) (fin u n d) e = absurd (false≢true e)
add_finite (fin s m k) nan e = absurd (false≢true e)
add_finite (fin s m k) (inf u) e = absurd (false≢true e)
add_finite (fin s m k) (fin u n d) e = (refl, refl)

not_fine : (b s : Bool) → Fine (cond b nan (inf s)) → ⊥
not_fine true s e = false≢true e
not_fine false s e = false≢true e

-- a product that is finite has finite operands
pub mul_finite : (x y : Float) → Fine (mul binary64 x y) → Fine x × Fine y
unfolding mul
mul_finite nan y e = absurd (false≢true e)
mul_finite (inf s) nan e = absurd (false≢true e)
mul_finite (inf s) (inf u) e = absurd (false≢true e)
mul_finite (inf s) (fin u n d) e = absurd (not_fine (eqb n 0) (unlike s u) e)
mul_finite (fin s m k) nan e = absurd (false≢true e)
mul_finite (fin s m k) (inf u) e = absurd (not_fine (eqb m 0) (unlike s u) e)
mul_finite (fin s m k) (fin u n d) e = (refl, refl)

-- ## The way to each part

linear_fine : (u x v y : Float) → Fine (linear u x v y) → (Fine u × Fine x) × (Fine v × Fine y)
unfolding linear
linear_fine u x v y e = let s = add_finite (times u x) (times v y) e in (mul_finite u x s.0, mul_finite v y s.1)

-- every number in u·x + v·y is finite where the sum is
way_of_linear_lem : (u x v y : Float) → all is_finite (way_of_linear u x v y) ≡ is_finite (linear u x v y)
unfolding way_of_linear linear
way_of_linear_lem u x v y =
    iff (λ e. (both (both (both (both (both (both (both e).1).1).1).1).1).1).0)
    (λ e.
    let s = add_finite (times u x) (times v y) e in
    let l = mul_finite u x s.0 in
    let r = mul_finite v y s.1 in
    joined l.0 (joined l.1 (joined r.0 (joined r.1 (joined s.0 (joined s.1 (joined e refl)))))))

shifted_fine : (u x v y w : Float) → Fine (shifted u x v y w) → Fine (linear u x v y) × Fine w
unfolding shifted
shifted_fine u x v y w e = add_finite (linear u x v y) w e

-- every number in u·x + v·y + w is finite where the sum is
way_of_shifted_lem : (u x v y w : Float) → all is_finite (way_of_shifted u x v y w) ≡ is_finite (shifted u x v y w)
unfolding way_of_shifted
way_of_shifted_lem u x v y w =
    all_append is_finite (way_of_linear u x v y) (w ∷ shifted u x v y w ∷ [])
    ∙ iff (λ e. (both (both (both e).1).1).0)
    (λ e. let s = shifted_fine u x v y w e in joined (way_of_linear_lem u x v y ∙ s.0) (joined s.1 (joined e refl)))

way_of_image_lem : (t : Affine) (x y : Float) → all is_finite (way_of_image t x y) ≡ finite_point (image t x y)
unfolding way_of_image finite_point image
way_of_image_lem t x y =
    rw (all_append is_finite (way_of_shifted t.a x t.c y t.e) (way_of_shifted t.b x t.d y t.f), way_of_shifted_lem t.a x t.c y t.e, way_of_shifted_lem t.b x t.d y t.f)

way_of_corners_lem : (t : Affine) (r : Rect) → all is_finite (way_of_corners t r) ≡ of_corners finite_points t r
unfolding way_of_corners finite_points
way_of_corners_lem t r = simp (all_append, way_of_image_lem)

way_of_product_lem : (p q : Affine) → all is_finite (way_of_product p q) ≡ finite_affine (product p q)
unfolding way_of_product affine_test product
way_of_product_lem p q = simp (all_append, way_of_linear_lem, way_of_shifted_lem)

-- ## The way to a box

-- a transform is finite where the corners under it are, where its product is, and where the numbers on the way are
corners_fine : (t : Affine) (r : Rect) → of_corners finite_points t r ≡ true → finite_affine t ≡ true
unfolding finite_points finite_point image affine_test
corners_fine t r e =
    let first = both (both (both (both e).0).0).0 in
    let across = shifted_fine t.a r.x0 t.c r.y0 t.e first.0 in
    let down = shifted_fine t.b r.x0 t.d r.y0 t.f first.1 in
    let ac = linear_fine t.a r.x0 t.c r.y0 across.0 in
    let bd = linear_fine t.b r.x0 t.d r.y0 down.0 in
    joined (joined (joined (joined (joined ac.0.0 bd.0.0) ac.1.0) bd.1.0) across.1) down.1

product_fine : (p q : Affine) → finite_affine (product p q) ≡ true → finite_affine q ≡ true
unfolding affine_test product
product_fine p q e =
    let five = both e in
    let four = both five.0 in
    let three = both four.0 in
    let two = both three.0 in
    let ab = linear_fine p.a q.a p.c q.b (both two.0).0 in
    let cd = linear_fine p.a q.c p.c q.d two.1 in
    let ef = linear_fine p.a q.e p.c q.f (shifted_fine p.a q.e p.c q.f p.e four.1).0 in
    joined (joined (joined (joined (joined ab.0.1 ab.1.1) cd.0.1) cd.1.1) ef.0.1) ef.1.1

way_fine : (t : Affine) (ps : List Affine) (r : Rect) → all is_finite (way t ps r) ≡ true → finite_affine t ≡ true
unfolding way
way_fine t [] r e = corners_fine t r (sym (way_of_corners_lem t r) ∙ e)
way_fine t (p ∷ ps) r e =
    product_fine p t (sym (way_of_product_lem p t) ∙ (both (sym (all_append is_finite (way_of_product p t) (way (product p t) ps r)) ∙ e)).0)

-- every number on the way is finite where the eight coordinates of the corners are
pub way_is_corners : (t : Affine) (ps : List Affine) (r : Rect) → all is_finite (way t ps r) ≡ of_corners finite_points (chain t ps) r
unfolding way chain
way_is_corners t [] r = way_of_corners_lem t r
way_is_corners t (p ∷ ps) r =
    all_append is_finite (way_of_product p t) (way (product p t) ps r)
    ∙ iff (λ e. (both e).1) (λ e. joined (way_of_product_lem p t ∙ way_fine (product p t) ps r e) e)
    ∙ way_is_corners (product p t) ps r

-- so the box under a list of transforms is the box by the corners alone
pub box_under_lem : (t : Affine) (ps : List Affine) (r : Rect) → box_under t ps r ≡ box_of (chain t ps) r
unfolding box_under box_of
box_under_lem t ps r = rw (way_is_corners t ps r)
