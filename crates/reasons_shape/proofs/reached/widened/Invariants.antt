-- `reasons_shape::reached::widened` meets its contract: each mark passed is stored. Assumes nothing.
use Rattle.reasons_shape.specs.Reached.{next_mark}
use Rattle.reasons_shape.proofs.reached.Marks.{Storing}
use Rattle.reasons_shape.proofs.reached.widened.Given as goal

abbrev pub invariant-loop-i : goal.invariant-loop-i
invariant-loop-i l = Storing l.n (next_mark l.state l.marks) l.next l.i
