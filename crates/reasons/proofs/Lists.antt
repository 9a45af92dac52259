-- Laws of lists: what is kept, counted, found by a test. Assumes nothing.
use mathlib.Core.Bool.{Bool, true, false, true≢false, false≢true}
use mathlib.Core.List.Memᴰ
use mathlib.Core.List.{List, [], ◌∷◌, ◌++◌, map, Memᴰ}
use mathlib.Core.Logic.{⊎_elim}
use mathlib.Core.Path.{◌≡◌, refl, sym, ap, ◌∙◌}
use Prim.Native.Nat.{ℕ, suc, ◌+◌, ◌≤◌}
use native.Mathlib.Omega.{arith}
use lib.ListN.{length}
use Rattle.base.specs.Tests.{◌and◌, is_nil, all, keep, count, has}
use Rattle.base.proofs.Cases.{by_test}
use Rattle.base.proofs.Tests.{clash, refuted, all_member}
use Rattle.base.proofs.Lists.{any_of, any_found}
use Rattle.base.proofs.Sums.{sum_over}
use Rattle.ids.specs.Ids.{same_id}
use Rattle.ids.proofs.Ids.{same_id→≡, same_id_refl}
use Rattle.ids.specs.declared.FullNodeId.{FullNodeId}

-- an id that is in a list by the test is in it
pub has_member : (xs : List FullNodeId) (x : FullNodeId) → has same_id xs x ≡ true → Memᴰ x xs
has_member xs x e = let z = any_found (same_id x) xs e in Memᴰ.cast (same_id→≡ x z.0 z.2) z.1

-- what is kept passes
pub keep_passes : {A : Type 0} (p : A → Bool) (xs : List A) (x : A) → Memᴰ x (keep p xs) → p x ≡ true
keep_passes p [] x i = absurd (Memᴰ.not-nil i)
keep_passes p (y ∷ ys) x i =
    by_test (p y) (λ t. ⊎_elim (λ q. ap p q ∙ t) (λ j. keep_passes p ys x j) (Memᴰ.cases_cons (rw t at i))) (λ t. keep_passes p ys x (rw t at i))

-- where not all pass, one fails
pub some_fails : {A : Type 0} (p : A → Bool) (xs : List A) → all p xs ≡ false → (x : A) × Memᴰ x xs × (p x ≡ false)
some_fails p [] e = absurd (true≢false e)
some_fails p (x ∷ xs) e =
    by_test (p x) (λ t. let z = some_fails p xs (unfold ◌and◌ in (rw t at e)) in (z.0, Memᴰ.tail z.1, z.2)) (λ t. (x, Memᴰ.head refl, t))

-- a list that is empty by the test is empty
pub nil_of : {A : Type 0} {xs : List A} → is_nil xs ≡ true → xs ≡ []
nil_of {xs = []} e = refl
nil_of {xs = x ∷ xs} e = absurd (false≢true e)

-- and what passes is kept
pub member_keep : {A : Type 0} (p : A → Bool) (xs : List A) (x : A) → Memᴰ x xs → p x ≡ true → Memᴰ x (keep p xs)
member_keep {A = A} p [] x x4 e = elim x4 [ ]
member_keep p (y ∷ ys) x (Memᴰ.head q) e = rw (ap p (sym q) ∙ e) (Memᴰ.head q)
member_keep p (y ∷ ys) x (Memᴰ.tail i) e = let h = member_keep p ys x i e in by_test (p y) (λ t. rw t (Memᴰ.tail h)) (λ t. rw t h)

-- an id that is in a list is in it by the test
pub member_has : (xs : List FullNodeId) (x : FullNodeId) → Memᴰ x xs → has same_id xs x ≡ true
member_has xs x i = any_of (same_id x) xs x i (same_id_refl x)

-- a member's number is no more than the sum
pub sum_member : {A : Type 0} (f : A → ℕ) (xs : List A) (x : A) → Memᴰ x xs → f x ≤ sum_over f xs
sum_member {A = A} f [] x x3 = elim x3 [ ]
sum_member f (y ∷ ys) x (Memᴰ.head q) = omega (arith, ap f q)
sum_member f (y ∷ ys) x (Memᴰ.tail i) = omega (arith, sum_member f ys x i)

-- a member that fails fails all
pub all_fails : {A : Type 0} (p : A → Bool) (xs : List A) (x : A) → Memᴰ x xs → p x ≡ false → all p xs ≡ false
all_fails p xs x i e = refuted (λ h. clash e (all_member p xs x h i))

module _ {A : Type 0} where
  -- where no element passes, none is counted
  pub count_none : (p : A → Bool) (xs : List A) → ((x : A) → Memᴰ x xs → p x ≡ false) → count p xs ≡ 0
  count_none p [] h = refl
  count_none p (x ∷ xs) h = rw (h x (Memᴰ.head refl)) (count_none p xs (λ y i. h y (Memᴰ.tail i)))

  -- where all pass, all are counted
  pub count_every : (p : A → Bool) (xs : List A) → ((x : A) → Memᴰ x xs → p x ≡ true) → count p xs ≡ length xs
  count_every p [] h = refl
  count_every p (x ∷ xs) h = rw (h x (Memᴰ.head refl)) (ap suc (count_every p xs (λ y i. h y (Memᴰ.tail i))))

  pub count_append : (p : A → Bool) (xs ys : List A) → count p (xs ++ ys) ≡ count p xs + count p ys
  count_append p [] ys = omega arith
  count_append p (x ∷ xs) ys = let h = count_append p xs ys in by_test (p x) (λ t. rw t (omega arith)) (λ t. rw t h)

  -- what is kept stood there
  pub keep_member : (p : A → Bool) (xs : List A) (x : A) → Memᴰ x (keep p xs) → Memᴰ x xs
  keep_member p [] x i = i
  keep_member p (y ∷ ys) x i =
      by_test (p y) (λ t. ⊎_elim (λ q. Memᴰ.head q) (λ j. Memᴰ.tail (keep_member p ys x j)) (Memᴰ.cases_cons (rw t at i)))
      (λ t. Memᴰ.tail (keep_member p ys x (rw t at i)))

module _ {A B : Type 0} (f : A → B) where
  -- an image is that of an element
  pub map_member : (xs : List A) (y : B) → Memᴰ y (map f xs) → (x : A) × Memᴰ x xs × (f x ≡ y)
  map_member [] y i = absurd (Memᴰ.not-nil i)
  map_member (x ∷ xs) y i =
      ⊎_elim (λ q. (x, Memᴰ.head refl, sym q)) (λ j. let z = map_member xs y j in (z.0, Memᴰ.tail z.1, z.2)) (Memᴰ.cases_cons i)

  pub member_map : (xs : List A) (x : A) → Memᴰ x xs → Memᴰ (f x) (map f xs)
  member_map [] x x3 = elim x3 [ ]
  member_map (y ∷ ys) x (Memᴰ.head q) = Memᴰ.head (ap f q)
  member_map (y ∷ ys) x (Memᴰ.tail i) = Memᴰ.tail (member_map ys x i)

  -- of the kept elements no more images are counted than of all
  pub count_map_keep : (p : B → Bool) (q : A → Bool) (xs : List A) → count p (map f (keep q xs)) ≤ count (λ x. p (f x)) xs
  count_map_keep p q [] = omega arith
  count_map_keep p q (x ∷ xs) =
      let h = count_map_keep p q xs in
      by_test (q x) (λ t. by_test (p (f x)) (λ u. rw (t, u) (omega arith)) (λ u. rw (t, u) h))
      (λ t. by_test (p (f x)) (λ u. rw (t, u) (omega arith)) (λ u. rw (t, u) h))
