-- `update_focus::way::last_graft` meets its contract: a law for each way out. Assumes nothing.
use borrow.Author.Rules.{rules}
use Rattle.update_focus.proofs.Ways.{graft_nowhere, graft_last}
use Rattle.update_focus.proofs.way.last_graft.Goals as goal

pub returns-in_default : goal.returns-in_default
returns-in_default c = search (rules, graft_nowhere)

pub returns : goal.returns
returns c = search (rules, graft_last)
