-- What is left of a list from a place on, and a search that goes on there. Assumes nothing.
use mathlib.Core.List.{List, [], ◌∷◌}
use mathlib.Core.Path.{◌≡◌, refl, sym, ap, ◌∙◌}
use Prim.Native.Nat.{ℕ, suc, ◌+◌, ◌≤◌, ◌<◌}
use native.Mathlib.Numerals.{add-one}
use lib.ListN.{drop, drop_of_length-le}
use lib.Seq.{drop-cons}
use Rattle.base.specs.Bytes.{list_of}
use Rattle.base.proofs.Bytes.{length_list_of, list_of_at}

module _ {A : Type 0} (n : ℕ) (f : ℕ → A) where
  pub list_from : (i : ℕ) → i < n → drop i (list_of n f) ≡ f i ∷ drop (i + 1) (list_of n f)
  list_from i h = rw (add-one i, drop-cons (list_of n f) i (f 0) (rw (length_list_of n f) h), list_of_at n i f (f 0) h)

  pub list_past : (i : ℕ) → n ≤ i → drop i (list_of n f) ≡ []
  list_past i h = drop_of_length-le (list_of n f) {i = i} (rw (length_list_of n f) h)

-- a search of a list from its i-th element on, k being the first number, answers as the whole search does
pub record Rest {X A : Type 0} (f : ℕ → List X → A) (xs : List X) (i : ℕ) : Type 0 where
  pub same : f i (drop i xs) ≡ f 0 xs

pub rest_start : {X A : Type 0} {f : ℕ → List X → A} {xs : List X} → Rest f xs 0
rest_start = record { same = refl }

-- one more
pub rest_more : {X A : Type 0} {f : ℕ → List X → A} {xs : List X} {i : ℕ} → Rest f xs i → {x : X} → drop i xs ≡ x ∷ drop (i + 1) xs
    → f i (x ∷ drop (i + 1) xs) ≡ f (suc i) (drop (i + 1) xs) → Rest f xs (i + 1)
rest_more {f = f} {xs} {i} g e step = record { same = ap (λ k. f k (drop (i + 1) xs)) (add-one i) ∙ sym step ∙ ap (f i) (sym e) ∙ g.same }
