-- `reasons_shape::links::crowd` meets its contract: no node passed has more than 256 children. Assumes nothing.
use Rattle.reasons.specs.Shape.{crowded}
use Rattle.reasons_shape.proofs.Slots.{Seeking}
use Rattle.reasons_shape.proofs.links.crowd.Given as goal

abbrev pub invariant-loop-i : goal.invariant-loop-i
invariant-loop-i l = Seeking l.state crowded l.i
