-- Laws of columns: one more is written, and those that are written stay. Each is stated once for every phase. Assumes nothing.
use mathlib.Core.List.{List, [], ◌∷◌}
use mathlib.Core.Path.{refl, ◌∙◌}
use Prim.Native.Nat.{ℕ, zero, suc, ◌+◌, ◌≤◌, ◌<◌}
use native.Mathlib.Omega.{arith}
use lib.ListN.{length, set, length-set}
use lib.Seq.{get_or-set_other}
use Rattle.base.proofs.Cases.{by_last}
use Rattle.base.specs.Regions.{fill, Part, part_start, part_of}
use Rattle.calls.specs.Columns.{Holds, Column, Fit, Below}
use Rattle.base.proofs.Regions.{fill_length, fill_kept, fill_put}

-- ## What stays

pub below_none : (end : ℕ) (s : List ℕ) → Below end s s
below_none end s = record { long = refl; kept = λ k h. refl }

-- a store past the end
pub below_set : (end : ℕ) (s t : List ℕ) (k v : ℕ) → end ≤ k → Below end s t → Below end s (set t k v)
below_set end s t k v h b = record {
  long = length-set t k v ∙ b.long;
  kept = λ j l. get_or-set_other t k j v 0 (λ e. omega arith) ∙ b.kept j l;
}

-- a region past the end
pub below_fill : (end start n : ℕ) (f : ℕ → ℕ) (s : List ℕ) → end ≤ start → Below end s (fill start n f s)
below_fill end start n f s h = record { long = fill_length start f n s; kept = λ k l. fill_kept start f n s k (λ p q. omega arith) }

pub holds_below : (end start n : ℕ) (f : ℕ → ℕ) (s t : List ℕ) → start + n ≤ end → Below end s t → Holds s start n f → Holds t start n f
holds_below end start n f s t h b holds i l = b.kept (start + i) (omega arith) ∙ holds i l

pub holds_fill : (start n : ℕ) (f : ℕ → ℕ) (s : List ℕ) → start + n ≤ length s → Holds (fill start n f s) start n f
holds_fill start n f s h i l = fill_put start f n s h i l

-- ## Columns of a table

-- a column ends where a later one starts, or before
before : (ps : List Part) → Fit ps → (j k : ℕ) → j < k → part_start ps j + (part_of ps j).used ≤ part_start ps k
before [] fit j k h = omega arith
before (p ∷ ps) fit j zero h = absurd (omega arith)
before (p ∷ ps) fit zero (suc k) h = omega (arith, fit 0)
before (p ∷ ps) fit (suc j) (suc k) h = omega (arith, before ps (λ i. fit (suc i)) j k (omega arith))

module _ (ps : List Part) (fit : Fit ps) (s : List ℕ) (k : ℕ) (told : (j : ℕ) → j < k → Column ps s j) where
  -- the first k columns stay while the words past them change
  pub columns_below : (t : List ℕ) → Below (part_start ps k) s t → (j : ℕ) → j < k → Column ps t j
  columns_below t b j h = holds_below (part_start ps k) (part_start ps j) (part_of ps j).used (part_of ps j).word s t (before ps fit j k h) b (told j h)

  -- one column more
  pub columns_more : Column ps s k → (j : ℕ) → j < k + 1 → Column ps s j
  columns_more new j h = by_last j k h (λ e. rw e new) (told j)

-- no column is too small where each one by itself is not
abbrev Each : List Part → Type 0
Each [] = Unit {0}
Each (p ∷ ps) = (p.used ≤ p.size) × Each ps

pub each_fit : (ps : List Part) → Each ps → Fit ps
each_fit [] e j = omega arith
each_fit (p ∷ ps) e zero = e.0
each_fit (p ∷ ps) e (suc j) = each_fit ps e.1 j
