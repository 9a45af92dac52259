-- `record_layout::all_kept` meets its contract. The loop has passed i records that keep their rules, with the sums of their children and of their
-- label bytes. Assumes nothing.
use mathlib.Core.List.{List}
use mathlib.Core.Path.{◌≡◌}
use Prim.Native.Nat.{ℕ, ◌*◌, ◌≤◌}
use Rattle.base.specs.Tests.{is_none}
use Rattle.base.proofs.Scan.{Passed}
use Rattle.record.specs.Parse.{children_before, labels_before}
use Rattle.record_rules.specs.Rules.{record_offence}
use Rattle.record_layout.proofs.all_kept.Given as goal

-- the first i records keep their rules, with so many children and label bytes
pub record Counted (s : List ℕ) (n children labels i : ℕ) : Type 0 where
  pub passed : Passed (λ k. is_none (record_offence s k)) n i
  pub children_are : children ≡ children_before s i
  pub labels_are : labels ≡ labels_before s i
  pub children_small : children ≤ 65535 * i
  pub labels_small : labels ≤ 65535 * i

abbrev pub invariant-loop-i : goal.invariant-loop-i
invariant-loop-i l = Counted l.batch l.nodes l.children l.labels l.i
