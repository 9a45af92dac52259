-- Laws of what a phase is told: the batch that it is asked, and the columns of the notes. Assumes nothing.
use mathlib.Core.List.{List}
use mathlib.Core.Path.{◌≡◌, refl, ap, ◌∙◌}
use Prim.Native.Nat.{ℕ, ◌+◌, ◌≤◌, ◌<◌}
use native.Mathlib.Omega.{arith}
use lib.ListN.{set}
use Rattle.base.specs.Regions.{fill, part_start, part_of}
use Rattle.calls.specs.Columns.{Column, Fit, Below}
use Rattle.base.proofs.Regions.{fill_cong}
use Rattle.calls.proofs.notes.Columns.{below_none, below_set, below_fill, holds_fill, columns_below, columns_more, each_fit}
use Rattle.calls.specs.declared.notes.Scope.{Scope}
use Rattle.calls.specs.Setting.{Batched, asked, forest, Given}
use Rattle.update.proofs.Outcome.{length_outcome}
use Rattle.calls.specs.Says.{outcome_count, columns, Told}
use Rattle.calls.proofs.notes.Setting.{batched_facts}

module _ (state bytes : List ℕ) (c : Scope) (g : Given state bytes c) where
  -- the batch lists the record's nodes
  pub batched : Batched bytes (asked bytes c)
  unfolding asked
  batched = record { formed = g.formed; nodes = refl }

  -- its limits
  pub few_listed : c.listed ≤ 64
  few_listed = omega (arith, (batched_facts bytes (asked bytes c) batched).nodes_limit, g.scoped.listed)

  pub few_named : c.named ≤ 256
  few_named = omega (arith, (batched_facts bytes (asked bytes c) batched).named_limit, g.scoped.named)

  pub few_after : outcome_count state bytes c ≤ 320
  few_after =
      let n = length_outcome (forest state) (asked bytes c) in
      omega (arith, g.kept.few_nodes, (batched_facts bytes (asked bytes c) batched).nodes_limit)

  -- so no column is too small
  pub fit : Fit (columns state bytes c)
  fit = each_fit (columns state bytes c) (omega (arith, few_listed, few_named, few_after))

module _ (state bytes : List ℕ) (c : Scope) (s : List ℕ) (k : ℕ) (told : Told k state bytes c s) where
  -- THE FRAME: words past the columns that are written change
  pub told_below : (t : List ℕ) → Below (part_start (columns state bytes c) k) s t → Told k state bytes c t
  told_below t b = record {
    given = told.given;
    long = b.long ∙ told.long;
    written = columns_below (columns state bytes c) (fit state bytes c told.given) s k told.written t b;
  }

  pub told_set : (p v : ℕ) → part_start (columns state bytes c) k ≤ p → Told k state bytes c (set s p v)
  told_set p v h = told_below (set s p v) (below_set (part_start (columns state bytes c) k) s s p v h (below_none (part_start (columns state bytes c) k) s))

  pub told_fill : (start n : ℕ) (f : ℕ → ℕ) → part_start (columns state bytes c) k ≤ start → Told k state bytes c (fill start n f s)
  told_fill start n f h = told_below (fill start n f s) (below_fill (part_start (columns state bytes c) k) start n f s h)

  -- THE STEP: the next column is there too
  pub told_more : Column (columns state bytes c) s k → Told (k + 1) state bytes c s
  told_more new = record { given = told.given; long = told.long; written = columns_more (columns state bytes c) (fit state bytes c told.given) s k told.written new }

-- the next column, as a loop fills it
pub told_next : (state bytes : List ℕ) (c : Scope) (s : List ℕ) (k : ℕ) → Told k state bytes c s
    → part_start (columns state bytes c) k + (part_of (columns state bytes c) k).used ≤ 4096
    → Told (k + 1) state bytes c (fill (part_start (columns state bytes c) k) (part_of (columns state bytes c) k).used (part_of (columns state bytes c) k).word s)
told_next state bytes c s k told h =
    let ps = columns state bytes c in
    let t = fill (part_start ps k) (part_of ps k).used (part_of ps k).word s in
    let at : part_start ps k ≤ part_start ps k = omega arith in
    told_more state bytes c t k (told_fill state bytes c s k told (part_start ps k) (part_of ps k).used (part_of ps k).word at)
    (holds_fill (part_start ps k) (part_of ps k).used (part_of ps k).word s (omega (arith, told.long)))

-- THE END OF A LOOP THAT FILLS A COLUMN: m words are stored, which are those of the column
pub told_filled : (state bytes : List ℕ) (c : Scope) (s t : List ℕ) (k m : ℕ) (f : ℕ → ℕ) → Told k state bytes c s
    → part_start (columns state bytes c) k + (part_of (columns state bytes c) k).used ≤ 4096
    → t ≡ fill (part_start (columns state bytes c) k) m f s → m ≡ (part_of (columns state bytes c) k).used
    → ((j : ℕ) → j < (part_of (columns state bytes c) k).used → f j ≡ (part_of (columns state bytes c) k).word j) → Told (k + 1) state bytes c t
told_filled state bytes c s t k m f told room filled all same =
    let ps = columns state bytes c in
    let is : t ≡ fill (part_start ps k) (part_of ps k).used (part_of ps k).word s =
    filled ∙ ap (λ n. fill (part_start ps k) n f s) all ∙ fill_cong (part_start ps k) (part_of ps k).used f (part_of ps k).word s same in
    rw is (told_next state bytes c s k told room)
