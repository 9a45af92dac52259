-- Elements of a list that are taken up one by one: what is left of the list, and what the answer so far says of those taken. Assumes nothing.
use mathlib.Core.List.{List, [], ◌∷◌, ◌++◌, append_assoc, append-nil}
use mathlib.Core.Path.{◌≡◌, refl, sym, ◌∙◌, subst}

-- An answer r₀ to any list has become an answer r to that list and those of `whole` that are not in `rest`. T says what an answer says of a list.
pub record Gathered {A R : Type 0} (T : List A → R → Type 0) (r₀ : R) (whole rest : List A) (r : R) : Type 0 where
  pub told : (ls : List A) → T ls r₀ → (ds : List A) × T ds r × (ds ++ rest ≡ ls ++ whole)

module _ {A R : Type 0} {T : List A → R → Type 0} {r₀ : R} {whole : List A} where
  pub gathered_start : Gathered T r₀ whole whole r₀
  gathered_start = record { told = λ ls t. (ls, t, refl) }

  -- one more
  pub gathered_more : {a : A} {rest : List A} {r z : R} → Gathered T r₀ whole (a ∷ rest) r → ((ds : List A) → T ds r → T (ds ++ a ∷ []) z)
      → Gathered T r₀ whole rest z
  gathered_more {a} {rest} g step =
      record { told = λ ls t. let k = g.told ls t in (k.0 ++ a ∷ [], step k.0 k.1, append_assoc k.0 (a ∷ []) rest ∙ k.2) }

  -- all of them
  pub gathered_end : {r : R} → Gathered T r₀ whole [] r → (ls : List A) → T ls r₀ → T (ls ++ whole) r
  gathered_end {r} g ls t = let k = g.told ls t in subst (λ l. T l r) (sym (append-nil k.0) ∙ k.2) k.1
