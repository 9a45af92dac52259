-- `why_outcome::climb::dropped` meets its contract: a law for each way out. Assumes nothing.
use borrow.Author.Rules.{rules}
use Rattle.calls.proofs.why_outcome.Climbs.{lost_none, lost_there}
use Rattle.calls.proofs.why_outcome.climb.dropped.Goals as goal

pub returns-then-slots-at : goal.returns-then-slots-at
returns-then-slots-at c = search (rules, lost_none)

pub returns : goal.returns
returns c = search (rules, lost_there)
