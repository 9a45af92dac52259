-- Proofs by cases: a test, an option, an order. Assumes nothing.
use mathlib.Core.Bool.{Bool, true, false}
use Rattle.std.specs.Prelude.{Option, None, Some}
use mathlib.Core.Path.{◌≡◌, refl}
use Prim.Native.Nat.{ℕ, ◌+◌, ◌≤◌, ◌<◌}
use native.Mathlib.Decide.{dec_lt}
use native.Mathlib.Omega.{arith}

module _ {P : Type 0} where
  -- a test holds, or fails
  pub by_test : (c : Bool) → (c ≡ true → P) → (c ≡ false → P) → P
  by_test true f g = f refl
  by_test false f g = g refl

  -- an option has a value, or none
  pub by_option : {A : Type 0} (o : Option A) → (o ≡ None → P) → ((x : A) → o ≡ Some x → P) → P
  by_option None f g = f refl
  by_option (Some x) f g = g x refl

  -- a number is below another, or not
  pub by_order : (i n : ℕ) → (i < n → P) → (n ≤ i → P) → P
  by_order i n f g = elim (dec_lt i n) [ yes h ↦ f h | no h ↦ g (omega arith) ]

  -- a number below n + 1 is n, or below n
  pub by_last : (i n : ℕ) → i < n + 1 → (i ≡ n → P) → (i < n → P) → P
  by_last i n l f g = by_order i n g (λ h. f (omega arith))
