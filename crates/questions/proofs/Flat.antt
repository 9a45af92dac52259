-- Laws of lists that are put together from the lists of their elements. Assumes nothing.
use mathlib.Core.List.Memᴰ
use mathlib.Core.List.{List, [], ◌∷◌, ◌++◌, reverse, flat_map, append_assoc, append-nil, reverse-append, reverse-cons, Memᴰ}
use mathlib.Core.Logic.{◌⊎◌, inl, inr}
use mathlib.Core.Path.{◌≡◌, refl, sym, ap, ap₂, ◌∙◌}

module _ {A B : Type 0} where
  pub flat_append : (f : A → List B) (xs ys : List A) → flat_map f (xs ++ ys) ≡ flat_map f xs ++ flat_map f ys
  unfolding flat_map
  flat_append f [] ys = refl
  flat_append f (x ∷ xs) ys = ap (λ (zs : List B). f x ++ zs) (flat_append f xs ys) ∙ sym (append_assoc (f x) (flat_map f xs) (flat_map f ys))

  -- what is the same for each element is the same for the list
  pub flat_cong : (f g : A → List B) (xs : List A) → ((x : A) → Memᴰ x xs → f x ≡ g x) → flat_map f xs ≡ flat_map g xs
  unfolding flat_map
  flat_cong f g [] h = refl
  flat_cong f g (x ∷ xs) h = ap₂ (λ (a b : List B). a ++ b) (h x (Memᴰ.head refl)) (flat_cong f g xs (λ y i. h y (Memᴰ.tail i)))

  -- an element of the whole is one of an element's list
  pub flat_member : (f : A → List B) (xs : List A) (y : B) → Memᴰ y (flat_map f xs) → (x : A) × Memᴰ x xs × Memᴰ y (f x)
  unfolding flat_map
  flat_member f [] y i = absurd (Memᴰ.not-nil i)
  flat_member f (x ∷ xs) y i = go (Memᴰ.append_cases (f x) i) (flat_member f xs y)
    where
      go : Memᴰ y (f x) ⊎ Memᴰ y (flat_map f xs) → (Memᴰ y (flat_map f xs) → (z : A) × Memᴰ z xs × Memᴰ y (f z))
          → (z : A) × Memᴰ z (x ∷ xs) × Memᴰ y (f z)
      go (inl j) h = (x, Memᴰ.head refl, j)
      go (inr j) h = let z = h j in (z.0, Memᴰ.tail z.1, z.2)

  -- from the end
  pub flat_reverse : (f : A → List B) (xs : List A) → reverse (flat_map f xs) ≡ flat_map (λ x. reverse (f x)) (reverse xs)
  unfolding flat_map
  flat_reverse f [] = refl
  flat_reverse f (x ∷ xs) =
      reverse-append (f x) (flat_map f xs)
      ∙ ap₂ (λ (a b : List B). a ++ b) (flat_reverse f xs) (sym (append-nil (reverse (f x))))
      ∙ sym (flat_append (λ y. reverse (f y)) (reverse xs) (x ∷ []))
      ∙ ap (flat_map (λ y. reverse (f y))) (sym (reverse-cons x xs))

pub member_reverse : {A : Type 0} (xs : List A) (y : A) → Memᴰ y (reverse xs) → Memᴰ y xs
member_reverse [] y i = i
member_reverse {A} (x ∷ xs) y i = go (Memᴰ.append_cases (reverse xs) (rw reverse-cons at i)) (member_reverse xs y)
  where
    go : Memᴰ y (reverse xs) ⊎ Memᴰ y (x ∷ []) → (Memᴰ y (reverse xs) → Memᴰ y xs) → Memᴰ y (x ∷ xs)
    go (inl j) h = Memᴰ.tail (h j)
    go (inr j) h = Memᴰ.head (Memᴰ.eq_of_singleton j)
