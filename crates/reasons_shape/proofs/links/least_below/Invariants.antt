-- `reasons_shape::links::least_below` meets its contract: the absent ids of each place passed are compared. Assumes nothing.
use Rattle.reasons_shape.proofs.Least.{Lessening}
use Rattle.reasons_shape.proofs.links.least_below.Given as goal

abbrev pub invariant-loop-place : goal.invariant-loop-place
invariant-loop-place l = Lessening l.state l.p l.initial.all l.place l.all
