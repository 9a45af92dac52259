-- Laws of an array that a function of the index makes. Assumes nothing.
use mathlib.Core.List.{List}
use mathlib.Core.Path.{◌≡◌, sym, subst, ◌∙◌}
use Prim.Native.Nat.{ℕ, zero, suc, ◌+◌, ◌<◌}
use native.Mathlib.Nat.{zero-add, add-zero}
use native.Mathlib.Omega.{arith}
use lib.ListN.{get_or}
use lib.Seq.{ext_get_or}
use denote.Param.Members.{Mut, Called}
use Rattle.std.specs.Array.{IsFromFnResultFrom, IsFromFnResult}
use Rattle.base.specs.Bytes.{list_of}
use Rattle.base.proofs.Bytes.{length_list_of, list_of_at}

-- a closure that changes nothing and answers v at each index
module _ {F : Type 0} (g : Mut F (ℕ × Unit {0}) ℕ) (f : F) (ys : List ℕ) (v : ℕ → ℕ) (answers : (i y : ℕ) (q : F) → Called g f (i, tt) y q → (y ≡ v i) × (q ≡ f)) where
  each_made : (i n : ℕ) → IsFromFnResultFrom g f ys i n → (k : ℕ) → k < n → get_or ys (i + k) 0 ≡ v (i + k)
  each_made i zero made k h = absurd (omega arith)
  each_made i (suc n) (q, y, at, called, rest) zero h = rw add-zero (at.1 0 ∙ (answers i y q called).0)
  each_made i (suc n) (q, y, at, called, rest) (suc k) h =
      let e : i + suc k ≡ i + 1 + k = omega arith in
      rw e (each_made (i + 1) n (subst (λ (p : F). IsFromFnResultFrom g p ys (i + 1) n) (answers i y q called).1 rest) k (omega arith))

  pub array_made : (n : ℕ) → IsFromFnResult g f ys n → ys ≡ list_of n v
  array_made n made =
      ext_get_or 0 ys (list_of n v) (made.long ∙ sym (length_list_of n v))
      (λ k h. rw zero-add at (each_made 0 n made.each k (rw made.long at h)) ∙ sym (list_of_at n k v 0 (rw made.long at h)))
