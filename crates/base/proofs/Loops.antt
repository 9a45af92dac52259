-- Loops, and functions that go by the rows of a table: one law for each shape, in the form in which the needs of a proof meet it.
-- Assumes nothing.
use mathlib.Core.Bool.{Bool, true, false, not}
use mathlib.Core.List.{List, [], ◌∷◌}
use mathlib.Core.Path.{◌≡◌, refl, sym, ap, ◌∙◌}
use Prim.Native.Nat.{ℕ, zero, suc, ◌+◌, ◌≤◌, ◌<◌}
use native.Mathlib.Omega.{arith}
use lib.ListN.{length, get_or, set}
use borrow.Author.Count.{below_more}
use Rattle.base.specs.Tests.{any}
use Rattle.base.specs.Tables.{Row, row, found, first}
use Rattle.base.specs.Search.{First}
use Rattle.base.specs.Regions.{fill}
use Rattle.base.proofs.Tests.{or_right}
use Rattle.base.proofs.Tables.{first_holds, first_passes, first_none, found_counts, found_passes}
use Rattle.base.proofs.Search.{first_here, first_end}
use Rattle.base.proofs.Regions.{fill_none, fill_more, fill_put}

-- ## A loop that fills a region

-- of n words from `start` on, at most `most`, the first i are stored
pub record Filling (start most n : ℕ) (word : ℕ → ℕ) (before : List ℕ) (i : ℕ) (after : List ℕ) : Type 0 where
  pub within : i ≤ n
  pub few : n ≤ most
  pub filled : after ≡ fill start i word before

-- none yet
pub filling_begins : {start most n : ℕ} {word : ℕ → ℕ} {before : List ℕ} → n ≤ most → Filling start most n word before 0 before
filling_begins {start} {word = word} {before} h = record { within = omega arith; few = h; filled = sym (fill_none start word before) }

module _ {start most n : ℕ} {word : ℕ → ℕ} {before after : List ℕ} {i : ℕ} (g : Filling start most n word before i after) where
  -- one more
  pub filling_goes : {v : ℕ} → i < n → v ≡ word i → Filling start most n word before (i + 1) (set after (start + i) v)
  filling_goes h e = record { within = omega arith; few = g.few; filled = rw (g.filled, e) (sym (fill_more start word i before)) }

  -- all of them
  pub filling_ends : n ≤ i → after ≡ fill start n word before
  filling_ends h = let last : i ≡ n = omega (arith, g.within) in g.filled ∙ ap (λ k. fill start k word before) last

  -- what stands at a place then
  pub filling_at : n ≤ i → start + n ≤ length before → (j : ℕ) → j < n → get_or after (start + j) 0 ≡ word j
  filling_at h room j l = ap (λ s. get_or s (start + j) 0) (filling_ends h) ∙ fill_put start word n before room j l

-- ## A loop that searches

-- of n places the first i are passed: p fails at each
pub record Passing (p : ℕ → Bool) (n i : ℕ) : Type 0 where
  pub within : i ≤ n
  pub passed : (k : ℕ) → k < i → p k ≡ false

-- none yet
pub passing_begins : {p : ℕ → Bool} {n : ℕ} → Passing p n 0
passing_begins = record { within = omega arith; passed = λ k h. absurd (omega arith) }

module _ {p : ℕ → Bool} {n i : ℕ} (g : Passing p n i) where
  -- one more
  pub passing_goes : i < n → p i ≡ false → Passing p n (i + 1)
  passing_goes h e = record { within = omega arith; passed = below_more (λ k. p k ≡ false) i g.passed e }

  -- the same where a call answers the test
  pub passing_called : {r : Bool} → i < n → r ≡ p i → r ≡ false → Passing p n (i + 1)
  passing_called h c e = passing_goes h (sym c ∙ e)

  -- another test that says the same
  pub passing_cong : (q : ℕ → Bool) → ((k : ℕ) → k < n → p k ≡ q k) → Passing q n i
  passing_cong q same = record { within = g.within; passed = λ k l. sym (same k (omega (arith, g.within))) ∙ g.passed k l }

  -- the first that passes
  pub passing_hit : i < n → p i ≡ true → First p n i
  passing_hit h e = first_here p n i g.passed h e

  -- there is none
  pub passing_ends : n ≤ i → First p n n
  passing_ends h = first_end p n i g.passed h

-- ## A loop that asks whether some element of a list passes

module _ {A : Type 0} (p : A → Bool) (xs : List A) (d : A) where
  -- one does
  pub any_at : {n i : ℕ} {r : Bool} → n ≡ length xs → i < n → r ≡ p (get_or xs i d) → r ≡ true → true ≡ any p xs
  any_at {i = i} e h c t = sym (at xs i (omega arith) (sym c ∙ t))
    where
      at : (ys : List A) (i : ℕ) → i < length ys → p (get_or ys i d) ≡ true → any p ys ≡ true
      at [] i h e = absurd (omega arith)
      at (y ∷ ys) zero h e = rw e
      at (y ∷ ys) (suc i) h e = or_right (p y) (at ys i (omega arith) e)

  -- none does
  pub any_passed : {n i : ℕ} → Passing (λ m. p (get_or xs m d)) n i → n ≡ length xs → n ≤ i → false ≡ any p xs
  any_passed g e h = sym (none xs (λ k l. g.passed k (omega arith)))
    where
      none : (ys : List A) → ((k : ℕ) → k < length ys → p (get_or ys k d) ≡ false) → any p ys ≡ false
      none [] f = refl
      none (y ∷ ys) f = rw (f 0 (omega arith)) (none ys (λ k l. f (suc k) (omega arith)))

-- ## A function that answers the first row of a table whose test holds

module _ (k : ℕ) (rs : List Row) where
  -- the first row holds, as a call answers its test or the opposite
  pub row_holds : (t : Bool) {r : Bool} → r ≡ t → r ≡ true → k ≡ first (row k t ∷ rs)
  row_holds t c e = sym (first_holds k t rs (sym c ∙ e))

  pub row_fails : (t : Bool) {r : Bool} → r ≡ t → r ≡ false → k ≡ first (row k (not t) ∷ rs)
  row_fails t c e = sym (first_holds k (not t) rs (ap not (sym c ∙ e)))

  -- a number found elsewhere
  pub found_here : {r : ℕ} → r ≡ k → (r ≡ 0 → ⊥) → r ≡ first (found k ∷ rs)
  found_here c e = c ∙ sym (found_counts k rs (λ z. e (c ∙ z)))

  module _ {j : ℕ} (later : j ≡ first rs) where
    -- the first row does not hold
    pub row_passes : (t : Bool) {r : Bool} → r ≡ t → r ≡ false → j ≡ first (row k t ∷ rs)
    row_passes t c e = later ∙ sym (first_passes k t rs (sym c ∙ e))

    pub row_passes_not : (t : Bool) {r : Bool} → r ≡ t → r ≡ true → j ≡ first (row k (not t) ∷ rs)
    row_passes_not t c e = later ∙ sym (first_passes k (not t) rs (ap not (sym c ∙ e)))

    pub found_nothing : {r : ℕ} → r ≡ k → r ≡ 0 → j ≡ first (found k ∷ rs)
    found_nothing c e = later ∙ sym (found_passes k rs (sym c ∙ e))

-- no row is left
pub rows_end : 0 ≡ first []
rows_end = sym first_none

-- all of these, for `search`
pub ruleset rows = (row_holds, row_fails, found_here, row_passes, row_passes_not, found_nothing, rows_end)
