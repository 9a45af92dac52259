-- `reasons_shape::links::topmost` meets its contract: the laws of `Climbing`. Assumes nothing.
use Rattle.reasons_shape.proofs.LinkRules.{Climbing}
use Rattle.reasons_shape.proofs.links.topmost.Given as goal

abbrev pub invariant-loop : goal.invariant-loop
invariant-loop l = Climbing l.state l.initial.at l.n l.counter l.at
