-- `update_focus::way::root` meets its contract: a law for each way out. Assumes nothing.
use borrow.Author.Rules.{rules}
use Rattle.update_focus.proofs.Ways.{root_none, root_some}
use Rattle.update_focus.proofs.way.root.Goals as goal

pub returns-in_err-e : goal.returns-in_err-e
returns-in_err-e c = search (rules, root_none)

pub returns : goal.returns
returns c = search (rules, root_some)
