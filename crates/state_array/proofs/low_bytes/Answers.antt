-- `state_array::low_bytes` meets its contract: a remainder by a power of 256, below 2^64. Assumes nothing.
use mathlib.Core.Path.{◌≡◌, sym}
use Prim.Native.Nat.{ℕ, ◌*◌, ◌%◌, ◌^◌, ◌<◌, min}
use native.Mathlib.Nat.{one-mul, mod-eq_of_lt}
use native.Mathlib.Omega.{arith}
use lib.Pow.{pow_pos, pow-lt}
use Rattle.state_array.proofs.Labels.{shift_bytes}
use Rattle.state_array.proofs.low_bytes.Goals as goal

-- what the shift gives
power : (n : ℕ) → n < 8 → 1 * 2 ^ (8 * n) % 18446744073709551616 ≡ 2 ^ (8 * n)
power n h = rw (one-mul (2 ^ (8 * n))) (mod-eq_of_lt (pow-lt {i = 8 * n} {j = 64} (omega arith)))

pub nonzero_rem-result : goal.nonzero_rem-result
nonzero_rem-result c = rw (power c.args.n (omega arith)) (pow_pos (8 * c.args.n))

pub returns-then-n-lt8 : goal.returns-then-n-lt8
returns-then-n-lt8 c =
    let n = c.args.n in
    let few : min 8 n ≡ n = omega arith in
    rw (power n (omega arith), shift_bytes n, few)

pub returns-else-n-lt8 : goal.returns-else-n-lt8
returns-else-n-lt8 c =
    let eight : min 8 c.args.n ≡ 8 = omega arith in
    rw eight (sym (mod-eq_of_lt c.ranges.w.fits))
