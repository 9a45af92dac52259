-- `reasons_shape::reached::root_marks` meets its contract: each mark passed is stored. Assumes nothing.
use Rattle.reasons_shape.specs.Reached.{root_mark}
use Rattle.reasons_shape.proofs.reached.Marks.{Storing}
use Rattle.reasons_shape.proofs.reached.root_marks.Given as goal

abbrev pub invariant-loop-i : goal.invariant-loop-i
invariant-loop-i l = Storing l.n (root_mark l.state l.root) l.marks l.i
