-- What stands at a place of a list, and at a place beside an element of it. Assumes nothing.
use mathlib.Core.List.{List, [], ◌∷◌, ◌++◌, reverse, reverse-append}
use Rattle.std.specs.Prelude.{None, Some, slice_get}
use mathlib.Core.Path.{◌≡◌, refl, sym, ap, ◌∙◌}
use Prim.Native.Nat.{ℕ, zero, suc, ◌+◌, ◌-◌, ◌≤◌, ◌<◌}
use native.Mathlib.Omega.{arith}
use lib.ListN.{length, get_or, take, drop, length-drop, length-reverse}
use lib.Seq.{take-suc, get_or-drop, length-take-le}
use Rattle.ids.specs.declared.FullNodeId.{FullNodeId}
use Rattle.questions.specs.declared.Side.{Side}
use Rattle.questions.specs.declared.Side.TheVariants.{Following, Preceding}
use Rattle.questions.specs.Links.{beside}
use Rattle.questions.specs.Ahead.{place_beside, count_beside}

module _ {A : Type 0} where
  -- what stands at a place is the first of what stands from there on
  pub at_none : (l : List A) (c : ℕ) → drop c l ≡ [] → slice_get l c ≡ None
  at_none [] c e = refl
  at_none (y ∷ l) zero e = absurd (let z : ◌≡◌ {A = ℕ} 0 1 = cc in omega arith)
  at_none (y ∷ l) (suc c) e = at_none l c e

  pub at_some : (l : List A) (c : ℕ) (x : A) (xs : List A) → drop c l ≡ x ∷ xs → (slice_get l c ≡ Some x) × (drop (suc c) l ≡ xs)
  at_some [] zero x xs e = absurd (let z : ◌≡◌ {A = ℕ} 0 1 = cc in omega arith)
  at_some [] (suc c) x xs e = absurd (let z : ◌≡◌ {A = ℕ} 0 1 = cc in omega arith)
  at_some (y ∷ l) zero x xs e = (cc, cc)
  at_some (y ∷ l) (suc c) x xs e = at_some l c x xs e

  -- one element more
  pub take_more : (l : List A) (c : ℕ) (x : A) → slice_get l c ≡ Some x → (take (suc c) l ≡ take c l ++ x ∷ []) × (c < length l)
  take_more [] c x e = absurd (let z : ◌≡◌ {A = ℕ} 0 1 = cc in omega arith)
  take_more (y ∷ l) zero x e = (cc, omega arith)
  take_more (y ∷ l) (suc c) x e = let z = take_more l c x e in (ap (λ (k : List A). y ∷ k) z.0, omega (arith, z.1))

  -- a place of a list, and one past its end
  pub place_in : (l : List A) (c : ℕ) (d : A) → c < length l → slice_get l c ≡ Some (get_or l c d)
  place_in [] c d h = absurd (omega arith)
  place_in (x ∷ l) zero d h = refl
  place_in (x ∷ l) (suc c) d h = place_in l c d (omega arith)

  pub place_out : (l : List A) (c : ℕ) → length l ≤ c → slice_get l c ≡ None
  place_out [] c h = refl
  place_out (x ∷ l) zero h = absurd (omega arith)
  place_out (x ∷ l) (suc c) h = place_out l c (omega arith)

-- ## Beside an element

pub beside_length : (side : Side) (i : ℕ) (xs : List FullNodeId) → i < length xs → length (beside side i xs) ≡ count_beside side i (length xs)
unfolding beside
beside_length Following i xs h = omega (arith, length-drop (suc i) xs)
beside_length Preceding i xs h = length-reverse (take i xs) ∙ length-take-le i xs (omega arith)

back_suc : (i : ℕ) (xs : List FullNodeId) (d : FullNodeId) → i < length xs → reverse (take (suc i) xs) ≡ get_or xs i d ∷ reverse (take i xs)
back_suc i xs d h = rw (take-suc xs i d, reverse-append) refl

back_at : (i k : ℕ) (xs : List FullNodeId) (d : FullNodeId) → i ≤ length xs → k < i → get_or (reverse (take i xs)) k d ≡ get_or xs (i - 1 - k) d
back_at zero k xs d h l = absurd (omega arith)
back_at (suc i) zero xs d h l =
    let here : suc i - 1 - 0 ≡ i = omega arith in
    ap (λ (ys : List FullNodeId). get_or ys 0 d) (back_suc i xs d h) ∙ ap (λ (j : ℕ). get_or xs j d) (sym here)
back_at (suc i) (suc k) xs d h l =
    let here : suc i - 1 - suc k ≡ i - 1 - k = omega arith in
    ap (λ (ys : List FullNodeId). get_or ys (suc k) d) (back_suc i xs d h) ∙ back_at i k xs d (omega arith) (omega arith) ∙ ap (λ (j : ℕ). get_or xs j d) (sym here)

pub beside_at : (side : Side) (i k : ℕ) (xs : List FullNodeId) (d : FullNodeId) → i < length xs → k < count_beside side i (length xs)
    → (place_beside side i k < length xs) × (slice_get (beside side i xs) k ≡ Some (get_or xs (place_beside side i k) d))
unfolding beside
beside_at Following i k xs d h l =
    let more : suc i + k ≡ i + 1 + k = omega arith in (
      omega arith,
      place_in (drop (suc i) xs) k d (omega (arith, length-drop (suc i) xs)) ∙ ap Some (get_or-drop (suc i) xs k d ∙ ap (λ (j : ℕ). get_or xs j d) more),
    )
beside_at Preceding i k xs d h l =
    let long = length-reverse (take i xs) ∙ length-take-le i xs (omega arith) in
    (omega arith, place_in (reverse (take i xs)) k d (omega arith) ∙ ap Some (back_at i k xs d (omega arith) l))
