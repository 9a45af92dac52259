-- Laws of a label's words and bytes, and of a float's bit pattern and its value. Assumes nothing.
use mathlib.Core.Bool.{Bool, true, not, false≢true}
use mathlib.Core.List.{List, [], ◌∷◌}
use mathlib.Core.Path.{◌≡◌, refl, sym, ap, ◌∙◌}
use Prim.Native.Nat.{min, ℕ, zero, suc, ◌+◌, ◌*◌, ◌/◌, ◌%◌, ◌^◌, ◌≤◌, ◌<◌}
use native.Mathlib.Numerals.{one-add}
use native.Mathlib.Nat.{add-zero, add_assoc, zero-min, min-zero, suc-min-suc, mod-one, div-one, pow-suc, zero-div, pow-succ', div-div-eq-div-mul, zero-lt-suc, one-le-pow}
use native.Mathlib.Omega.{arith}
use lib.Dec.{T, ltb}
use lib.Ieee.{Float, nan, inf, fin, fits, is_nan, of_bits, to_bits, binary64}
use lib.Ieee.Bits.{is_true, to_bits-of_bits, of_bits-to_bits, of_bits-fits}
use lib.ListN.{get_or, drop}
use lib.Arith.{mod-mul}
use lib.Pow.{pow-add}
use lib.Seq.{get_or-drop}
use borrow.Author.Tests.{ltb-true}
use Rattle.base.specs.Tests.{all}
use Rattle.base.specs.Bytes.{little_endian, le}
use Rattle.base.specs.Floats.{is_finite}
use Rattle.base.proofs.Tests.{both}
use Rattle.base.proofs.Lists.{all_drop}
use Rattle.base.proofs.Bytes.{le_one, le_add}

-- ## Floats

finite_number : (v : Float) → is_finite v ≡ true → T (not (is_nan v))
unfolding is_nan
finite_number nan e = absurd (false≢true e)
finite_number (inf s) e = tt
finite_number (fin s m k) e = tt

-- a pattern of a finite number is what that number is stored as
pub float_back : (w : ℕ) → w < 2 ^ 64 → is_finite (of_bits binary64 w) ≡ true → to_bits binary64 (of_bits binary64 w) ≡ w
float_back w h e = to_bits-of_bits binary64 w h (finite_number (of_bits binary64 w) e)

-- a stored number is read again
pub float_forth : (x : Float) → fits binary64 x ≡ true → of_bits binary64 (to_bits binary64 x) ≡ x
float_forth x h = of_bits-to_bits binary64 x (rw h tt)

pub float_fits : (w : ℕ) → fits binary64 (of_bits binary64 w) ≡ true
float_fits w = is_true (fits binary64 (of_bits binary64 w)) (of_bits-fits binary64 w)

-- ## Labels

-- every element is a byte
abbrev pub are_bytes : List ℕ → Bool
are_bytes s = all (λ x. ltb x 256) s

-- a shift by whole bytes
pub shift_bytes : (m : ℕ) → 2 ^ (8 * m) ≡ 256 ^ m
shift_bytes zero = refl
shift_bytes (suc m) =
    let e : 8 * suc m ≡ 8 + 8 * m = omega arith in
    rw (e, pow-add 2 8 (8 * m), shift_bytes m, pow-succ' 256 m)

little_byte : (w m : ℕ) (s : List ℕ) → are_bytes s ≡ true → m < w → little_endian w s / 256 ^ m % 256 ≡ get_or s m 0
unfolding little_endian
little_byte zero m s b h = absurd (omega arith)
little_byte (suc w) m [] b h = rw (zero-div (256 ^ m))
little_byte (suc w) zero (x ∷ s) b h =
    let small : x < 256 = ltb-true x 256 (both b).0 in
    omega arith
little_byte (suc w) (suc m) (x ∷ s) b h =
    let small : x < 256 = ltb-true x 256 (both b).0 in
    let part : (x + 256 * little_endian w s) / 256 ≡ little_endian w s = omega arith in
    rw (pow-succ' 256 m, ← div-div-eq-div-mul (x + 256 * little_endian w s) 256 (256 ^ m), part) (little_byte w m s (both b).1 (omega arith))

-- byte m of the number of the w bytes from `at`
pub le_byte : (w m at : ℕ) (s : List ℕ) → are_bytes s ≡ true → m < w → le w s at / 2 ^ (8 * m) % 256 ≡ get_or s (at + m) 0
unfolding le
le_byte w m at s b h = rw (shift_bytes m, little_byte w m (drop at s) (all_drop _ at s b) h) (get_or-drop at s m 0)

little_below : (w : ℕ) (s : List ℕ) → are_bytes s ≡ true → little_endian w s < 256 ^ w
unfolding little_endian
little_below zero s b = omega arith
little_below (suc w) [] b = one-le-pow (suc w) 256 (zero-lt-suc 255)
little_below (suc w) (x ∷ s) b =
    let small : x < 256 = ltb-true x 256 (both b).0 in
    omega (arith, little_below w s (both b).1, pow-succ' 256 w)

-- a label's word is one of 64 bits
pub le_below : (s : List ℕ) (at : ℕ) → are_bytes s ≡ true → le 8 s at < 2 ^ 64
unfolding le
le_below s at b = little_below 8 (drop at s) (all_drop _ at s b)

-- the first byte, and the others
front : (w at : ℕ) (s : List ℕ) → le (suc w) s at ≡ get_or s at 0 + 256 * le w s (at + 1)
front w at s = ap (λ n. le n s at) (sym (one-add w)) ∙ le_add s at 1 w ∙ rw (le_one s at)

-- the number of bytes of which the first n are those of v, and the others 0
pub le_cut : (w n v at : ℕ) (s : List ℕ) → ((m : ℕ) → m < w → m < n → get_or s (at + m) 0 ≡ v / 256 ^ m % 256) → ((m : ℕ) → m < w → n ≤ m → get_or s (at + m) 0 ≡ 0)
    → le w s at ≡ v % 256 ^ min w n
unfolding le little_endian
le_cut zero n v at s inside past = rw zero-min (sym (mod-one v))
le_cut (suc w) zero v at s inside past =
    let here : get_or s at 0 ≡ 0 = ap (λ k. get_or s k 0) (sym (add-zero at)) ∙ past 0 (omega arith) (omega arith) in
    let rest : le w s (at + 1) ≡ v % 256 ^ min w 0 =
    le_cut w 0 v (at + 1) s (λ m h l. absurd (omega arith)) (λ m h l. ap (λ k. get_or s k 0) (add_assoc at 1 m) ∙ past (1 + m) (omega arith) (omega arith)) in
    front w at s ∙ rw (here, rest, min-zero w, min-zero (suc w), mod-one v)
le_cut (suc w) (suc n) v at s inside past =
    let here : get_or s at 0 ≡ v % 256 = ap (λ k. get_or s k 0) (sym (add-zero at)) ∙ inside 0 (omega arith) (omega arith) ∙ ap (λ u. u % 256) (div-one v) in
    let rest : le w s (at + 1) ≡ v / 256 % 256 ^ min w n =
    le_cut w n (v / 256) (at + 1) s
    (λ m h l. ap (λ k. get_or s k 0) (add_assoc at 1 m) ∙ inside (1 + m) (omega arith) (omega arith)
    ∙ rw (one-add m, pow-succ' 256 m, ← div-div-eq-div-mul v 256 (256 ^ m)))
    (λ m h l. ap (λ k. get_or s k 0) (add_assoc at 1 m) ∙ past (1 + m) (omega arith) (omega arith)) in
    front w at s ∙ rw (here, rest, suc-min-suc, pow-suc 256 (min w n), mod-mul v {m = 256 ^ min w n} {c = 256} (one-le-pow (min w n) 256 (zero-lt-suc 255)) (zero-lt-suc 255)) (omega arith)
