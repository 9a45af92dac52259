-- `state_focus::effective_focus` meets its contract: the way begins at ROOT's focus. Assumes nothing.
use borrow.Author.Rules.{rules}
use Rattle.state_focus.proofs.Way.{effective_none, effective_from}
use Rattle.state_focus.proofs.effective_focus.Goals as goal

pub returns-in_err-e : goal.returns-in_err-e
returns-in_err-e c = search (rules, effective_none)

pub returns : goal.returns
returns c = search (rules, effective_from)
