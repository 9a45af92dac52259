-- `update_focus::way::after` meets its contract: a law for each way out. Assumes nothing.
use borrow.Author.Rules.{rules}
use Rattle.update_focus.proofs.Ways.{after_none, after_some}
use Rattle.update_focus.proofs.way.after.Goals as goal

pub returns-in_err-t : goal.returns-in_err-t
returns-in_err-t c = search (rules, after_none)

pub returns : goal.returns
returns c = search (rules, after_some)
