-- The first element of a part of a list, by its place. Assumes nothing.
use mathlib.Core.List.{List, [], ◌∷◌, reverse, reverse-append}
use Rattle.base.specs.Tests.{head_of}
use Rattle.std.specs.Prelude.{None, Some, slice_get}
use mathlib.Core.Path.{◌≡◌, refl, sym, ap, ◌∙◌}
use Prim.Native.Nat.{ℕ, zero, suc, ◌<◌}
use native.Mathlib.Omega.{arith}
use lib.ListN.{length, get_or, take, drop}
use lib.Seq.{take-suc, take-length}

module _ {A : Type 0} where
  -- the first of what stands from a place on
  pub head_drop : (xs : List A) (i : ℕ) → head_of (drop i xs) ≡ slice_get xs i
  head_drop [] zero = refl
  head_drop [] (suc i) = refl
  head_drop (x ∷ xs) zero = refl
  head_drop (x ∷ xs) (suc i) = head_drop xs i

  -- the last of what stands up to a place
  pub last_take : (xs : List A) (i : ℕ) (d : A) → i < length xs → head_of (reverse (take (suc i) xs)) ≡ Some (get_or xs i d)
  last_take xs i d h =
      ap (λ (l : List A). head_of (reverse l)) (take-suc xs i d h)
      ∙ ap head_of (reverse-append (take i xs) (get_or xs i d ∷ []))

  -- the last of all
  pub last_at : (xs : List A) (i : ℕ) (d : A) → length xs ≡ suc i → head_of (reverse xs) ≡ Some (get_or xs i d)
  last_at xs i d e =
      ap (λ (l : List A). head_of (reverse l)) (sym (take-length xs) ∙ ap (λ (n : ℕ). take n xs) e)
      ∙ last_take xs i d (omega arith)

  pub last_none : (xs : List A) → length xs ≡ 0 → head_of (reverse xs) ≡ None
  last_none [] e = refl
  last_none (x ∷ xs) e = absurd (omega arith)
