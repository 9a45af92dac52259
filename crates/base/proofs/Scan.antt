-- Laws of two loops over the numbers below a bound: one tests each and stops at the first that fails, one looks for the first that passes.
-- `search scan` closes their needs. Assumes nothing.
use mathlib.Core.Bool.{Bool, true, false, not}
use mathlib.Core.Path.{◌≡◌, sym, ap, ◌∙◌}
use Prim.Native.Nat.{ℕ, ◌+◌, ◌≤◌, ◌<◌}
use native.Mathlib.Omega.{arith}
use borrow.Author.Rules.{rules}
use Rattle.base.specs.Bytes.{all_below}
use Rattle.base.specs.Search.{First}
use Rattle.base.proofs.Bytes.{all_below_none, all_below_more, all_below_fails}
use Rattle.base.proofs.Cases.{by_last}
use Rattle.base.proofs.Tests.{call_true, call_false}

-- every number below i, which is at most m, passes
pub record Passed (p : ℕ → Bool) (m i : ℕ) : Type 0 where
  pub within : i ≤ m
  pub each : all_below i p ≡ true

-- none does
pub record Missed (p : ℕ → Bool) (m i : ℕ) : Type 0 where
  pub within : i ≤ m
  pub none : (k : ℕ) → k < i → p k ≡ false

-- n is the bound in the contract, m in the code
module _ {p : ℕ → Bool} {m : ℕ} where
  pub scan_start : Passed p m 0
  scan_start = record { within = omega arith; each = all_below_none p }

  pub scan_more : {i : ℕ} → Passed p m i → i < m → p i ≡ true → Passed p m (i + 1)
  scan_more {i} h l e = record { within = omega arith; each = all_below_more p i h.each e }

  pub scan_fails : {i n : ℕ} → Passed p m i → m ≡ n → i < m → p i ≡ false → false ≡ all_below n p
  scan_fails {i} {n} h b l e = sym (all_below_fails p n i (rw b at l) e)

  pub scan_end : {i n : ℕ} → Passed p m i → m ≡ n → m ≤ i → true ≡ all_below n p
  scan_end {i} {n} h b l = let e : i ≡ n = omega (arith, h.within) in sym (rw e at h.each)

  pub seek_start : Missed p m 0
  seek_start = record { within = omega arith; none = λ k l. absurd (omega arith) }

  pub seek_more : {i : ℕ} → Missed p m i → i < m → p i ≡ false → Missed p m (i + 1)
  seek_more {i} h l e = record { within = omega arith; none = λ k b. by_last k i b (λ q. rw q e) (h.none k) }

  pub seek_here : {i n : ℕ} → Missed p m i → m ≡ n → i < m → p i ≡ true → First p n i
  seek_here h b l e = record { within = omega arith; passed = h.none; hit = λ _. e }

  pub seek_end : {i n : ℕ} → Missed p m i → m ≡ n → m ≤ i → First p n m
  seek_end h b l = record { within = omega arith; passed = λ k a. h.none k (omega arith); hit = λ a. absurd (omega arith) }

-- what a call's result says of the test that its contract names, and of that test turned round
pub call_is : {r t b : Bool} → r ≡ t → r ≡ b → t ≡ b
call_is e h = sym e ∙ h

pub call_held : {r t : Bool} → r ≡ t → r ≡ true → not t ≡ false
call_held e h = ap not (sym e ∙ h)

pub call_failed : {r t : Bool} → r ≡ t → r ≡ false → not t ≡ true
call_failed e h = ap not (sym e ∙ h)

pub ruleset scan =
    (rules, scan_start, scan_more, scan_fails, scan_end, seek_start, seek_more, seek_here, seek_end, call_is, call_true, call_false, call_held, call_failed)
