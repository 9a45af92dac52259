-- `reasons_shape::reached::reached` meets its contract: the laws of `Reaching`. Assumes nothing.
use borrow.Author.Rules.{rules}
use Rattle.reasons_shape.proofs.reached.Marks.{reached_none, reaching_start, reaching_more, reaching_end}
use Rattle.reasons_shape.proofs.reached.reached.Goals as goal

pub returns-in_default : goal.returns-in_default
returns-in_default c = search (rules, reached_none)

pub loop-init : goal.loop-init
loop-init c = search (rules, reaching_start)

pub loop-preserved : goal.loop-preserved
loop-preserved c = search (rules, reaching_more)

pub returns : goal.returns
returns c = search (rules, reaching_end)
