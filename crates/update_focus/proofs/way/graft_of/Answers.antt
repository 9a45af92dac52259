-- `update_focus::way::graft_of` meets its contract: a law for each way out. Assumes nothing.
use borrow.Author.Rules.{rules}
use Rattle.base.specs.Tests.{◌and◌}
use Rattle.update_focus.proofs.Ways.{grafts_one, grafts_none}
use Rattle.update_focus.proofs.way.graft_of.Goals as goal

pub returns-then-i-slots : goal.returns-then-i-slots
unfolding ◌and◌
returns-then-i-slots c = search (rules, grafts_one)

pub returns : goal.returns
unfolding ◌and◌
returns c = search (rules, grafts_none)
