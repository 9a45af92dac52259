-- `reasons_shape::links::crowd` meets its contract: no node passed has more than 256 children. Assumes nothing.
use Rattle.base.proofs.Scan.{call_is}
use Rattle.reasons_shape.proofs.LinkRules.{crowd_says}
use Rattle.reasons_shape.proofs.Slots.{seeking_more, spot_kept, spot_broken}
use borrow.Author.Rules.{rules}
use Rattle.reasons_shape.proofs.links.crowd.Goals as goal

pub returns-then-is_crowded : goal.returns-then-is_crowded
returns-then-is_crowded c = search (rules, spot_broken, call_is, crowd_says)

pub loop-i-preserved : goal.loop-i-preserved
loop-i-preserved c = search (rules, seeking_more, call_is)

pub returns : goal.returns
returns c = search (rules, spot_kept)
