-- `why_outcome::grafts::holder_from` meets its contract: no node passed grafts the tree. Assumes nothing.
use Rattle.calls.proofs.why_outcome.Regrafts.{Seeking}
use Rattle.calls.proofs.why_outcome.grafts.holder_from.Given as goal

abbrev pub invariant-loop-j : goal.invariant-loop-j
invariant-loop-j l = Seeking l.next l.t l.from l.n l.j
