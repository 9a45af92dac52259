-- `why_outcome::grafts::grafted_twice` meets its contract: no tree of a node passed is grafted later. Assumes nothing.
use Rattle.calls.proofs.why_outcome.Regrafts.{Scanning}
use Rattle.calls.proofs.why_outcome.grafts.grafted_twice.Given as goal

abbrev pub invariant-loop-i : goal.invariant-loop-i
invariant-loop-i l = Scanning l.next l.n l.i
