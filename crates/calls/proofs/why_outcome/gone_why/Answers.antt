-- `why_outcome::gone_why` meets its contract: no node lost its place, or one did. Assumes nothing.
use borrow.Author.Rules.{rules}
use Rattle.calls.proofs.why_outcome.Climbs.{gone_alone, gone_lost}
use Rattle.calls.proofs.why_outcome.gone_why.Goals as goal

pub returns-in_default : goal.returns-in_default
returns-in_default c = search (rules, gone_alone)

pub returns : goal.returns
returns c = search (rules, gone_lost)
