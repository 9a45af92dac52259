-- `reports::write_list` meets its contract: what is picked of the slots passed is written. Assumes nothing.
use Rattle.calls.proofs.reports.Slice.{ListBelow}
use Rattle.calls.proofs.reports.write_list.Given as goal

abbrev pub invariant-loop-i : goal.invariant-loop-i
invariant-loop-i l = ListBelow l.weight l.notes l.start l.state l.initial.changes l.at l.i l.changes l.to
