-- `reasons_shape::links::first_above` meets its contract: no node passed stands above the id. Assumes nothing.
use Rattle.base.proofs.Scan.{Missed}
use Rattle.reasons_shape.specs.Reached.{below_at}
use Rattle.reasons_shape.proofs.links.first_above.Given as goal

abbrev pub invariant-loop-p : goal.invariant-loop-p
invariant-loop-p l = Missed (below_at l.state l.x) l.n l.p
