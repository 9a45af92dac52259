-- `reasons_shape::disorder` meets its contract: each id passed comes before all that follow. Assumes nothing.
use Rattle.reasons_shape.proofs.Slots.{Ascending}
use Rattle.reasons_shape.proofs.disorder.Given as goal

abbrev pub invariant-loop-i : goal.invariant-loop-i
invariant-loop-i l = Ascending l.state l.i
