-- `why_outcome::climb::climbed` meets its contract: what is lost from here is what is lost from slot i. Assumes nothing.
use Rattle.calls.proofs.why_outcome.Climbs.{Climbing}
use Rattle.calls.proofs.why_outcome.climb.climbed.Given as goal

abbrev pub invariant-loop : goal.invariant-loop
invariant-loop l = Climbing l.state l.batch l.scope l.i l.counter l.at
