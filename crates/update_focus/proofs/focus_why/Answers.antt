-- `update_focus::focus_why` meets its contract: a law for each number. Assumes nothing.
use borrow.Author.Rules.{rules}
use Rattle.update_focus.proofs.Focus.{why_focused, why_nothing, why_rootless, why_lost}
use Rattle.update_focus.proofs.focus_why.Goals as goal

pub returns-then-number-eq0 : goal.returns-then-number-eq0
returns-then-number-eq0 c = search (rules, why_focused)

pub returns-then-number-eq15 : goal.returns-then-number-eq15
returns-then-number-eq15 c = search (rules, why_nothing)

pub returns-then-number-eq16 : goal.returns-then-number-eq16
returns-then-number-eq16 c = search (rules, why_rootless)

pub returns : goal.returns
returns c = search (rules, why_lost)
