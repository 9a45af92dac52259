-- `why_outcome::grafts::grafted_twice` meets its contract: no tree of a node passed is grafted later. Assumes nothing.
use borrow.Author.Rules.{rules}
use Rattle.calls.specs.Regrafts.{regraft_of}
use Rattle.calls.proofs.why_outcome.Regrafts.{scanning_hits, scanning_goes, scanning_ends}
use Rattle.calls.proofs.why_outcome.grafts.grafted_twice.Goals as goal

pub returns-in-Some : goal.returns-in-Some
unfolding regraft_of
returns-in-Some c = search (rules, scanning_hits)

pub loop-i-preserved : goal.loop-i-preserved
unfolding regraft_of
loop-i-preserved c = search (rules, scanning_goes)

pub returns : goal.returns
unfolding regraft_of
returns c = search (rules, scanning_ends)
