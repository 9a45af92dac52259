-- `reasons_shape::reached::is_below` meets its contract: the id stands at no place passed. Assumes nothing.
use Rattle.reasons_shape.proofs.reached.Below.{Looking}
use Rattle.reasons_shape.proofs.reached.is_below.Given as goal

abbrev pub invariant-loop-j : goal.invariant-loop-j
invariant-loop-j l = Looking l.state l.x l.p l.j
