-- `reasons_shape::links::topmost` meets its contract: the laws of `Climbing`. Assumes nothing.
use Rattle.reasons_shape.proofs.LinkRules.{climbing_end, climbing_top, climbing_held, climbing_on}
use borrow.Author.Rules.{rules}
use Rattle.reasons_shape.proofs.links.topmost.Goals as goal

pub returns-in_default : goal.returns-in_default
returns-in_default c = search (rules, climbing_top)

pub returns-then-not-is_lost : goal.returns-then-not-is_lost
returns-then-not-is_lost c = search (rules, climbing_held)

pub loop-preserved : goal.loop-preserved
loop-preserved c = search (rules, climbing_on)

pub returns : goal.returns
returns c = search (rules, climbing_end)
