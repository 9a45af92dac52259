-- Sums and products of whole numbers in binary64: a sum of at most 2 ^ 53 in size is exact, and so is a product with 0 or 1. Assumes nothing.
use mathlib.Core.Path.{◌≡◌, refl, sym, ap, ◌∙◌}
use mathlib.Core.Bool.{Bool, true, false, ◌&&◌, ◌||◌, beq, and-eq-true_iff, false≢true}
use Prim.Native.Nat.{ℕ, zero, suc, ◌+◌, ◌*◌, ◌-◌, ◌^◌, ◌<◌, ◌≤◌, zero-le}
use native.Mathlib.Nat.{mul-one, one-mul, zero-add, zero-mul, mul-pos, mul_assoc, mul_comm, add-mul, mul-sub, mul-lt-mul_of_pos_right, mul-le-mul_right, mul-mul-mul_comm, le_refl, zero-lt-suc, le_of_lt, le_trans, eq_of_mul-eq-mul_right}
use native.Mathlib.Omega.{arith}
use lib.Dec.{T, ltb, eqb, leb-suc-suc, lit<, lit≤}
use lib.IntN.{ℤ, pos, negsuc, neg_ℤ, nat_abs, pos-ne-negsuc, ◌+ℤ◌, +ℤ_comm, +ℤ-neg_ℤ_cancel, neg_ℤ-+ℤ, neg_ℤ-neg_ℤ}
use lib.Ieee.{Float, nan, inf, fin, binary64, unlike, up, down, round, sum, add, mul, lt, eq, of_int, of_bits, fits, below}
use lib.Ieee.Fits.{down_pos, round-fits}
use lib.Ieee.Exact.{HasValue}
use lib.Ieee.Back.{round_whole, whole_unique}
use lib.Ieee.Scale.{round_same}
use borrow.Author.Tests.{ltb-true, ltb-false, lt-ltb, le-ltb, eqb-true, ne_eqb}
use Rattle.base.specs.Floats.{is_finite, same_value}
use Rattle.geometry_box.specs.Boxes.{with_plus_zero}
use Rattle.geometry_box.specs.Exact.{ltℤ}

-- ## Operations see only the values of their operands

ltb_scale : (m n c : ℕ) → 0 < c → ltb (m * c) (n * c) ≡ ltb m n
ltb_scale m n c h = go (ltb m n) refl
  where
    go : (b : Bool) → ltb m n ≡ b → ltb (m * c) (n * c) ≡ b
    go true e = lt-ltb (m * c) (n * c) (mul-lt-mul_of_pos_right (ltb-true m n e) h)
    go false e = le-ltb (m * c) (n * c) (mul-le-mul_right c (ltb-false m n e))

round_scale : (s : Bool) (k c : ℕ) → 0 < c → round binary64 s (k * c) c ≡ round binary64 s k 1
round_scale s k c h = round_same binary64 s (k * c) c k 1 h (lit< tt) (mul-one (k * c))

sub_scale : (m n c : ℕ) → m * c - n * c ≡ (m - n) * c
sub_scale m n c = sym (mul_comm (m - n) c ∙ mul-sub c m n ∙ (simp mul_comm))

sum_scale : (s : Bool) (m : ℕ) (t : Bool) (n c : ℕ) → 0 < c → sum binary64 s (m * c) t (n * c) c ≡ sum binary64 s m t n 1
unfolding sum
sum_scale s m t n c h =
    rw (ltb_scale m n c h, ltb_scale n m c h, sym (add-mul m n c), sub_scale n m c, sub_scale m n c, round_scale s (m + n) c h, round_scale t (n - m) c h, round_scale (s && ltb n m) (m - n) c h)

below_scale : (s : Bool) (m : ℕ) (t : Bool) (n c : ℕ) → 0 < c → below s (m * c) t (n * c) ≡ below s m t n
below_scale false m false n c h = ltb_scale m n c h
below_scale false m true n c h = refl
below_scale true m false n c h = ap (λ (k : ℕ). ltb 0 k) (sym (add-mul m n c)) ∙ ap (λ (k : ℕ). ltb k ((m + n) * c)) (sym (zero-mul c)) ∙ ltb_scale 0 (m + n) c h
below_scale true m true n c h = ltb_scale n m c h

-- the operands at a common denominator
left : (M : ℕ) (e d : ℤ) (m : ℕ) → M * up e * 1 ≡ m * down e → M * up e * down d ≡ m * (down e * down d)
left M e d m h = ap (λ (x : ℕ). x * down d) (sym (mul-one (M * up e)) ∙ h) ∙ mul_assoc m (down e) (down d)

right : (N : ℕ) (e d : ℤ) (n : ℕ) → N * up d * 1 ≡ n * down d → N * up d * down e ≡ n * (down e * down d)
right N e d n h = left N d e n h ∙ ap (λ (x : ℕ). n * x) (mul_comm (down d) (down e))

add_values : (x y : Float) (s t : Bool) (m n : ℕ) → HasValue x s m 1 → HasValue y t n 1 → add binary64 x y ≡ sum binary64 s m t n 1
unfolding add
add_values nan y s t m n v w = absurd v
add_values (inf u) y s t m n v w = absurd v
add_values (fin u M e) nan s t m n v w = absurd w
add_values (fin u M e) (inf r) s t m n v w = absurd w
add_values (fin u M e) (fin r N d) s t m n v w =
    rw (v.0, w.0, left M e d m v.1, right N e d n w.1) (sum_scale s m t n (down e * down d) (mul-pos (down_pos e) (down_pos d)))

mul_values : (x y : Float) (s t : Bool) (m n : ℕ) → HasValue x s m 1 → HasValue y t n 1 → mul binary64 x y ≡ round binary64 (unlike s t) (m * n) 1
unfolding mul
mul_values nan y s t m n v w = absurd v
mul_values (inf u) y s t m n v w = absurd v
mul_values (fin u M e) nan s t m n v w = absurd w
mul_values (fin u M e) (inf r) s t m n v w = absurd w
mul_values (fin u M e) (fin r N d) s t m n v w =
    rw (v.0, w.0, sym (mul-one (M * up e)) ∙ v.1, sym (mul-one (N * up d)) ∙ w.1, mul-mul-mul_comm m (down e) n (down d))
    (round_scale (unlike s t) (m * n) (down e * down d) (mul-pos (down_pos e) (down_pos d)))

lt_values : (x y : Float) (s t : Bool) (m n : ℕ) → HasValue x s m 1 → HasValue y t n 1 → lt x y ≡ below s m t n
unfolding lt
lt_values nan y s t m n v w = absurd v
lt_values (inf u) y s t m n v w = absurd v
lt_values (fin u M e) nan s t m n v w = absurd w
lt_values (fin u M e) (inf r) s t m n v w = absurd w
lt_values (fin u M e) (fin r N d) s t m n v w =
    rw (v.0, w.0, left M e d m v.1, right N e d n w.1) (below_scale s m t n (down e * down d) (mul-pos (down_pos e) (down_pos d)))

-- ## A float that is a whole number by value

-- n with a sign
abbrev pub signed : Bool → ℕ → ℤ
signed false n = pos n
signed true n = neg_ℤ (pos n)

zero_signed : (s t : Bool) → signed s 0 ≡ signed t 0
zero_signed true true = refl
zero_signed true false = refl
zero_signed false true = refl
zero_signed false false = refl

-- x is z, of at most k in size; where z is 0, x is either zero
pub record Valued (x : Float) (z : ℤ) (k : ℕ) : Type 0 where
  pub sign : Bool
  pub size : ℕ
  pub value : HasValue x sign size 1
  pub is : signed sign size ≡ z
  pub most : size ≤ k

-- with the integer and the bound written in another way
pub recast : {x : Float} {z w : ℤ} {j k : ℕ} → Valued x z j → z ≡ w → j ≤ k → Valued x w k
recast a e h = record { sign = a.sign; size = a.size; value = a.value; is = a.is ∙ e; most = le_trans a.most h }

abbrev pub sign_of : ℤ → Bool
sign_of (pos n) = false
sign_of (negsuc n) = true

signed_size : (z : ℤ) → signed (sign_of z) (nat_abs z) ≡ z
signed_size (pos n) = refl
signed_size (negsuc n) = refl

-- the float of an integer is that integer, up to 2 ^ 53
pub of_int_value : (z : ℤ) → nat_abs z ≤ 2 ^ 53 → HasValue (of_int binary64 z) (sign_of z) (nat_abs z) 1
unfolding of_int
of_int_value (pos n) h = round_whole binary64 false n h
of_int_value (negsuc n) h = round_whole binary64 true (suc n) h

factor_zero : (n c : ℕ) → 0 < c → n * c ≡ 0 → n ≡ 0
factor_zero zero c h e = refl
factor_zero (suc n) c h e = let p : 0 < suc n * c = mul-pos (zero-lt-suc n) h in omega arith

same_signed : (u r : Bool) (n c : ℕ) → 0 < c → (beq u r || eqb (n * c) 0) ≡ true → signed u n ≡ signed r n
same_signed true true n c h e = refl
same_signed false false n c h e = refl
same_signed true false n c h e = rw (factor_zero n c h (eqb-true (n * c) 0 e))
same_signed false true n c h e = rw (factor_zero n c h (eqb-true (n * c) 0 e))

-- what equals a number by value is that number, with some sign where it is 0
same_valued : (x y : Float) (t : Bool) (n : ℕ) → eq x y ≡ true → HasValue y t n 1 → Valued x (signed t n) n
unfolding eq
same_valued nan y t n e v = absurd (false≢true e)
same_valued (inf s) nan t n e v = absurd v
same_valued (inf s) (inf r) t n e v = absurd v
same_valued (inf s) (fin r N d) t n e v = absurd (false≢true e)
same_valued (fin u M k) nan t n e v = absurd v
same_valued (fin u M k) (inf r) t n e v = absurd v
same_valued (fin u M k) (fin r N d) t n e v =
    let c = down k * down d in
    let b = (and-eq-true_iff (eqb (M * up k * down d) (N * up d * down k)) (beq u r || eqb (M * up k * down d) 0)).0 e in
    let q = eqb-true (M * up k * down d) (N * up d * down k) b.0 ∙ right N k d n v.1 in
    let size = eq_of_mul-eq-mul_right (down d) (down_pos d) (M * up k) (n * down k) (q ∙ sym (mul_assoc n (down k) (down d))) in
    let signs = same_signed u r n c (mul-pos (down_pos k) (down_pos d)) (rw q at b.1) in
    record { sign = u; size = n; value = (refl, mul-one (M * up k) ∙ size); is = signs ∙ ap (λ (s : Bool). signed s n) v.0; most = le_refl n }

pub valued : {x : Float} {z : ℤ} {k : ℕ} → same_value x (of_int binary64 z) ≡ true → nat_abs z ≤ k → k ≤ 2 ^ 53 → Valued x z k
unfolding same_value
valued {x} {z} e s h = recast (same_valued x (of_int binary64 z) (sign_of z) (nat_abs z) e (of_int_value z (le_trans s h))) (signed_size z) s

-- ## Sums

over : (m n : ℕ) → n ≤ m → pos (m - n) ≡ pos m +ℤ neg_ℤ (pos n)
over m n h =
    let e : m - n + n ≡ m = omega arith in
    sym (+ℤ-neg_ℤ_cancel (pos (m - n)) (pos n)) ∙ ap (λ (k : ℕ). pos k +ℤ neg_ℤ (pos n)) e

under : (m n : ℕ) → m ≤ n → neg_ℤ (pos (n - m)) ≡ pos m +ℤ neg_ℤ (pos n)
under m n h =
    ap neg_ℤ (over n m h)
    ∙ neg_ℤ-+ℤ (pos n) (neg_ℤ (pos m))
    ∙ ap (λ (k : ℤ). neg_ℤ (pos n) +ℤ k) (neg_ℤ-neg_ℤ (pos m))
    ∙ +ℤ_comm (neg_ℤ (pos n)) (pos m)

-- x is z, of at most k in size, rounded
record Rounded (x : Float) (z : ℤ) (k : ℕ) : Type 0 where
  sign : Bool
  size : ℕ
  rounds : x ≡ round binary64 sign size 1
  is : signed sign size ≡ z
  most : size ≤ k

-- a rounded number of at most 2 ^ 53 in size is not changed by that
held : {x : Float} {z : ℤ} {k : ℕ} → Rounded x z k → k ≤ 2 ^ 53 → Valued x z k
held r h =
    record {
      sign = r.sign;
      size = r.size;
      value = rw r.rounds (round_whole binary64 r.sign r.size (le_trans r.most h));
      is = r.is;
      most = r.most;
    }

sum_rounded : (s : Bool) (m : ℕ) (t : Bool) (n : ℕ) → Rounded (sum binary64 s m t n 1) (signed s m +ℤ signed t n) (m + n)
unfolding sum
sum_rounded false m false n = record { sign = false; size = m + n; rounds = refl; is = refl; most = le_refl (m + n) }
sum_rounded true m true n = record { sign = true; size = m + n; rounds = refl; is = neg_ℤ-+ℤ (pos m) (pos n); most = le_refl (m + n) }
sum_rounded false m true n = go (ltb m n) refl
  where
    go : (b : Bool) → ltb m n ≡ b → Rounded (sum binary64 false m true n 1) (pos m +ℤ neg_ℤ (pos n)) (m + n)
    go true e = record { sign = true; size = n - m; rounds = rw e; is = under m n (le_of_lt (ltb-true m n e)); most = omega arith }
    go false e = record { sign = false; size = m - n; rounds = rw e; is = over m n (ltb-false m n e); most = omega arith }
sum_rounded true m false n = go (ltb m n) refl (ltb n m) refl
  where
    go : (b : Bool) → ltb m n ≡ b → (a : Bool) → ltb n m ≡ a → Rounded (sum binary64 true m false n 1) (neg_ℤ (pos m) +ℤ pos n) (m + n)
    go true e a h = record { sign = false; size = n - m; rounds = rw e; is = over n m (le_of_lt (ltb-true m n e)) ∙ +ℤ_comm (pos n) (neg_ℤ (pos m)); most = omega arith }
    go false e true h = record { sign = true; size = m - n; rounds = rw (e, h); is = under n m (ltb-false m n e) ∙ +ℤ_comm (pos n) (neg_ℤ (pos m)); most = omega arith }
    go false e false h =
        let z : n - m ≡ m - n = omega (arith, ltb-false m n e, ltb-false n m h) in
        record { sign = false; size = m - n; rounds = rw (e, h); is = ap pos (sym z) ∙ over n m (ltb-false n m h) ∙ +ℤ_comm (pos n) (neg_ℤ (pos m)); most = omega arith }

-- the sum of two integers is no greater in size than the sum of their sizes
signed_nat_abs : (s : Bool) (n : ℕ) → nat_abs (signed s n) ≡ n
signed_nat_abs false n = refl
signed_nat_abs true zero = refl
signed_nat_abs true (suc n) = refl

pub sum_size : (z w : ℤ) → nat_abs (z +ℤ w) ≤ nat_abs z + nat_abs w
sum_size z w =
    let r = sum_rounded (sign_of z) (nat_abs z) (sign_of w) (nat_abs w) in
    let is : signed r.sign r.size ≡ z +ℤ w = r.is ∙ rw (signed_size z, signed_size w) in
    rw (← is, signed_nat_abs r.sign r.size) r.most

pub add_valued : {x y : Float} {z w : ℤ} {j k : ℕ} → Valued x z j → Valued y w k → j + k ≤ 2 ^ 53 → Valued (add binary64 x y) (z +ℤ w) (j + k)
add_valued {x} {y} a b h =
    let r = sum_rounded a.sign a.size b.sign b.size in
    held
    (record {
      sign = r.sign;
      size = r.size;
      rounds = add_values x y a.sign b.sign a.size b.size a.value b.value ∙ r.rounds;
      is = r.is ∙ rw (a.is, b.is);
      most = omega (arith, r.most, a.most, b.most);
    })
    h

-- ## Products with 1 and 0

no_sign : (t : Bool) → unlike false t ≡ t
no_sign true = refl
no_sign false = refl

one_is : (s : Bool) (m : ℕ) → signed s m ≡ pos 1 → (s ≡ false) × (m ≡ 1)
one_is false m e = (refl, ap nat_abs e)
one_is true zero e =
    let z : ◌≡◌ {A = ℕ} 0 1 = ap nat_abs e in
    let no : ⊥ = omega arith in
    absurd no
one_is true (suc m) e = absurd (pos-ne-negsuc 1 m (sym e))

pub one_valued : {x y : Float} {w : ℤ} {j k : ℕ} → Valued x (pos 1) j → Valued y w k → k ≤ 2 ^ 53 → Valued (mul binary64 x y) w k
one_valued {x} {y} a b h =
    let e = one_is a.sign a.size a.is in
    held
    (record {
      sign = b.sign;
      size = b.size;
      rounds = mul_values x y a.sign b.sign a.size b.size a.value b.value ∙ rw (e.0, e.1, no_sign b.sign, one-mul b.size);
      is = b.is;
      most = b.most;
    })
    h

pub zero_valued : {x y : Float} {w : ℤ} {j k : ℕ} → Valued x (pos 0) j → Valued y w k → Valued (mul binary64 x y) (pos 0) 0
zero_valued {x} {y} a b =
    held
    (record {
      sign = unlike a.sign b.sign;
      size = 0;
      rounds = mul_values x y a.sign b.sign a.size b.size a.value b.value ∙ rw (sym (signed_nat_abs a.sign a.size) ∙ ap nat_abs a.is, zero-mul b.size);
      is = zero_signed (unlike a.sign b.sign) false;
      most = le_refl 0;
    })
    (lit≤ tt)

-- ## Comparison, and +0 for either zero

below_is : (s : Bool) (m : ℕ) (t : Bool) (n : ℕ) → below s m t n ≡ ltℤ (signed s m) (signed t n)
below_is false m false n = refl
below_is false m true zero = sym (le-ltb m 0 zero-le)
below_is false m true (suc n) = refl
below_is true zero false n = ap (ltb 0) (zero-add n)
below_is true (suc m) false n = lt-ltb 0 (suc m + n) (omega arith)
below_is true zero true zero = refl
below_is true zero true (suc n) = le-ltb (suc n) 0 zero-le
below_is true (suc m) true zero = lt-ltb 0 (suc m) (omega arith)
below_is true (suc m) true (suc n) = leb-suc-suc (suc n) m

pub lt_valued : {x y : Float} {z w : ℤ} {j k : ℕ} → Valued x z j → Valued y w k → lt x y ≡ ltℤ z w
lt_valued {x} {y} a b =
    lt_values x y a.sign b.sign a.size b.size a.value b.value
    ∙ below_is a.sign a.size b.sign b.size
    ∙ rw (a.is, b.is)

value_finite : (x : Float) (s : Bool) (n : ℕ) → HasValue x s n 1 → is_finite x ≡ true
value_finite nan s n v = absurd v
value_finite (inf u) s n v = absurd v
value_finite (fin u m e) s n v = refl

pub valued_finite : {x : Float} {z : ℤ} {k : ℕ} → Valued x z k → is_finite x ≡ true
valued_finite {x} a = value_finite x a.sign a.size a.value

pub of_int_finite : (z : ℤ) → nat_abs z ≤ 2 ^ 53 → is_finite (of_int binary64 z) ≡ true
of_int_finite z h = value_finite (of_int binary64 z) (sign_of z) (nat_abs z) (of_int_value z h)

-- a float compares equal to +0 where its value is 0, and nowhere else
zero_eq : (x : Float) (s : Bool) → HasValue x s 0 1 → eq x (of_bits binary64 0) ≡ true
unfolding eq of_bits
zero_eq nan s v = absurd v
zero_eq (inf u) s v = absurd v
zero_eq (fin true m e) s v = rw (v.1, zero-mul (down e))
zero_eq (fin false m e) s v = rw (v.1, zero-mul (down e))

nonzero_eq : (x : Float) (s : Bool) (n : ℕ) → HasValue x s (suc n) 1 → eq x (of_bits binary64 0) ≡ false
unfolding eq of_bits
nonzero_eq nan s n v = absurd v
nonzero_eq (inf u) s n v = absurd v
nonzero_eq (fin u m e) s n v =
    let p : 0 < suc n * down e = mul-pos (zero-lt-suc n) (down_pos e) in
    rw (v.1, zero-mul (down e), ne_eqb (suc n * down e) 0 (λ h. omega arith))

signed_of_int : (s : Bool) (n : ℕ) → round binary64 s (suc n) 1 ≡ of_int binary64 (signed s (suc n))
unfolding of_int
signed_of_int true n = refl
signed_of_int false n = refl

-- so it is the float of its integer, if it is written in the one way
pub plus_zero_valued : {x : Float} {z : ℤ} {k : ℕ} → Valued x z k → T (fits binary64 x) → k ≤ 2 ^ 53 → with_plus_zero x ≡ of_int binary64 z
unfolding with_plus_zero of_bits of_int round
plus_zero_valued {x} a fit h = go a.sign a.size a.value (le_trans a.most h) ∙ ap (of_int binary64) a.is
  where
    go : (s : Bool) (n : ℕ) → HasValue x s n 1 → n ≤ 2 ^ 53 → with_plus_zero x ≡ of_int binary64 (signed s n)
    go true zero v l = rw (zero_eq x true v)
    go false zero v l = rw (zero_eq x false v)
    go s (suc n) v l =
        rw (nonzero_eq x s n v)
        (whole_unique binary64 x (round binary64 s (suc n) 1) s (suc n) fit (round-fits binary64 s (suc n) 1) v (round_whole binary64 s (suc n) l) ∙ signed_of_int s n)
