-- `reasons_shape::links::wrong_link` meets its contract: each node passed records the link under which it is met. Assumes nothing.
use Rattle.reasons_shape.proofs.LinkRules.{Agreeing}
use Rattle.reasons_shape.proofs.links.wrong_link.Given as goal

abbrev pub invariant-loop-i : goal.invariant-loop-i
invariant-loop-i l = Agreeing l.state l.i
