-- `plan::write_staying` meets its contract: the first `i` slots are passed. Assumes nothing.
use Rattle.calls.specs.Plan.{Planned}
use Rattle.calls.proofs.plan.write_staying.Given as goal

abbrev pub invariant-loop-i : goal.invariant-loop-i
invariant-loop-i l = Planned l.i 0 l.state l.batch l.scope l.notes l.count
