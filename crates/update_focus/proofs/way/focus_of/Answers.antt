-- `update_focus::way::focus_of` meets its contract: a law for each way out. Assumes nothing.
use borrow.Author.Rules.{rules}
use Rattle.update_focus.proofs.Ways.{focus_none, focus_some}
use Rattle.update_focus.proofs.way.focus_of.Goals as goal

pub returns-in_err-e : goal.returns-in_err-e
returns-in_err-e c = search (rules, focus_none)

pub returns : goal.returns
returns c = search (rules, focus_some)
