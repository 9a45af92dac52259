-- `plan::write_new` meets its contract: the first `j` listed nodes are passed. Assumes nothing.
use Rattle.state_array.specs.View.{slots_of}
use Rattle.calls.specs.Plan.{Planned}
use Rattle.calls.proofs.plan.write_new.Given as goal

abbrev pub invariant-loop-j : goal.invariant-loop-j
invariant-loop-j l = Planned (slots_of l.state) l.j l.state l.batch l.scope l.notes l.count
