-- `reports::count_of` meets its contract: the slots passed are counted. Assumes nothing.
use mathlib.Core.Path.{◌≡◌}
use Prim.Native.Nat.{◌≤◌}
use lib.ListN.{length}
use Rattle.calls.specs.Slice.{slots_with}
use Rattle.calls.proofs.reports.count_of.Given as goal

abbrev pub invariant-loop-i : goal.invariant-loop-i
invariant-loop-i l = (l.count ≤ l.i) × (l.count ≡ length (slots_with l.weight l.notes l.start l.i))
