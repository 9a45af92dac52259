-- `reasons_shape::links::met_twice` meets its contract: no node passed is met more than once. Assumes nothing.
use Rattle.base.proofs.Scan.{call_is}
use Rattle.reasons_shape.proofs.LinkRules.{twice_says}
use Rattle.reasons_shape.proofs.Slots.{seeking_more, spot_kept, spot_broken}
use borrow.Author.Rules.{rules}
use Rattle.reasons_shape.proofs.links.met_twice.Goals as goal

pub returns-then-is_met_twice : goal.returns-then-is_met_twice
returns-then-is_met_twice c = search (rules, spot_broken, call_is, twice_says)

pub loop-i-preserved : goal.loop-i-preserved
loop-i-preserved c = search (rules, seeking_more, call_is)

pub returns : goal.returns
returns c = search (rules, spot_kept)
