-- `reasons_shape::is_first_after` meets its contract: each id passed comes after it. Assumes nothing.
use Rattle.reasons_shape.proofs.Slots.{ahead_more, ahead_fails, ahead_end}
use borrow.Author.Rules.{rules}
use Rattle.reasons_shape.proofs.is_first_after.Goals as goal

pub returns-then-not-is_before : goal.returns-then-not-is_before
returns-then-not-is_before c = search (rules, ahead_fails)

pub loop-j-preserved : goal.loop-j-preserved
loop-j-preserved c = search (rules, ahead_more)

pub returns : goal.returns
returns c = search (rules, ahead_end)
