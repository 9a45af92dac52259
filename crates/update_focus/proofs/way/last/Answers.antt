-- `update_focus::way::last` meets its contract: a law for each way out. Assumes nothing.
use borrow.Author.Rules.{rules}
use Rattle.update_focus.proofs.Ways.{last_none, last_some}
use Rattle.update_focus.proofs.way.last.Goals as goal

pub returns-then-n-lt1 : goal.returns-then-n-lt1
returns-then-n-lt1 c = search (rules, last_none)

pub returns : goal.returns
returns c = search (rules, last_some)
