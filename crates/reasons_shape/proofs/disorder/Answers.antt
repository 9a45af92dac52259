-- `reasons_shape::disorder` meets its contract: each id passed comes before all that follow. Assumes nothing.
use Rattle.reasons_shape.proofs.Slots.{ascending_more, ascending_fails, ascending_end}
use borrow.Author.Rules.{rules}
use Rattle.reasons_shape.proofs.disorder.Goals as goal

pub returns-then-not-is_first_after : goal.returns-then-not-is_first_after
returns-then-not-is_first_after c = search (rules, ascending_fails)

pub loop-i-preserved : goal.loop-i-preserved
loop-i-preserved c = search (rules, ascending_more)

pub returns : goal.returns
returns c = search (rules, ascending_end)
