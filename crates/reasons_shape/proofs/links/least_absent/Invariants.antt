-- `reasons_shape::links::least_absent` meets its contract: the absent ids below each node passed are compared. Assumes nothing.
use Rattle.reasons_shape.proofs.Least.{Absences}
use Rattle.reasons_shape.proofs.links.least_absent.Given as goal

abbrev pub invariant-loop-p : goal.invariant-loop-p
invariant-loop-p l = Absences l.state l.n l.p l.least
