-- Laws of verdicts: what a number of document 01's table refuses, and that 0 lets pass. Assumes nothing.
use mathlib.Core.Bool.{Bool, true, false}
use mathlib.Core.Path.{◌≡◌, refl, sym, ap, ◌∙◌}
use Prim.Native.Nat.{ℕ, zero, suc}
use native.Mathlib.Omega.{arith}
use Rattle.std.specs.Prelude.{Result, Ok, Err, is_err}
use Rattle.base.proofs.Tests.{clash}
use Rattle.calls.specs.declared.notes.Refusal.{Refusal}
use Rattle.calls.specs.Setting.{refusal}
use Rattle.calls.specs.Refusals.{verdict}

-- the refusal in a result
refusal_in : Result (Unit {0}) Refusal → Refusal
refusal_in (Ok u) = refusal 0
refusal_in (Err r) = r

verdict_in : (n : ℕ) → refusal_in (verdict n) ≡ refusal n
unfolding verdict refusal_in
verdict_in zero = refl
verdict_in (suc k) = refl

fails_some : (n : ℕ) → is_err (verdict n) ≡ true → n ≡ 0 → ⊥
unfolding verdict
fails_some zero e = absurd (clash refl e)
fails_some (suc k) e = λ z. omega arith

passes_zero : (n : ℕ) → is_err (verdict n) ≡ false → n ≡ 0
unfolding verdict
passes_zero zero e = refl
passes_zero (suc k) e = absurd (clash e refl)

-- a number that is not 0 is a refusal
pub verdict_refuses : (n : ℕ) → (n ≡ 0 → ⊥) → ◌≡◌ {A = Result (Unit {0}) Refusal} (Err (refusal n)) (verdict n)
unfolding verdict
verdict_refuses zero h = absurd (h refl)
verdict_refuses (suc k) h = refl

-- what refuses a number refuses the number of the rows
pub verdict_told : {o : Result (Unit {0}) Refusal} {k n : ℕ} → o ≡ verdict k → k ≡ n → o ≡ verdict n
verdict_told e q = e ∙ ap (λ m. verdict m) q

-- no row holds
pub verdict_clear : (n : ℕ) → 0 ≡ n → ◌≡◌ {A = Result (Unit {0}) Refusal} (Ok tt) (verdict n)
unfolding verdict
verdict_clear n q = ap (λ m. verdict m) q

module _ (n : ℕ) {o : Result (Unit {0}) Refusal} (e : o ≡ verdict n) where
  -- a refusal
  pub verdict_is : {r : Refusal} → o ≡ Err r → r ≡ refusal n
  unfolding refusal_in
  verdict_is {r} q = ap refusal_in (sym q ∙ e) ∙ verdict_in n

  pub verdict_some : {r : Refusal} → o ≡ Err r → n ≡ 0 → ⊥
  verdict_some q = fails_some n (ap (λ p. is_err p) (sym e ∙ q))

  -- none
  pub verdict_zero : {u : Unit {0}} → o ≡ Ok u → n ≡ 0
  verdict_zero q = passes_zero n (ap (λ p. is_err p) (sym e ∙ q))

  -- as the code asks
  pub verdict_fails : {b : Bool} → b ≡ is_err o → b ≡ true → n ≡ 0 → ⊥
  verdict_fails t q = fails_some n (ap (λ p. is_err p) (sym e) ∙ sym t ∙ q)

  pub verdict_passes : {b : Bool} → b ≡ is_err o → b ≡ false → n ≡ 0
  verdict_passes t q = passes_zero n (ap (λ p. is_err p) (sym e) ∙ sym t ∙ q)
