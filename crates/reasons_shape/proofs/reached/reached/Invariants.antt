-- `reasons_shape::reached::reached` meets its contract: the laws of `Reaching`. Assumes nothing.
use Rattle.reasons_shape.proofs.reached.Marks.{Reaching}
use Rattle.reasons_shape.proofs.reached.reached.Given as goal

abbrev pub invariant-loop : goal.invariant-loop
invariant-loop l = Reaching l.state l.n l.counter l.marks
