-- `update_focus::way::length` meets its contract: each place passed has a node. Assumes nothing.
use borrow.Author.Rules.{rules}
use Rattle.update_focus.proofs.Ways.{counting_goes, counting_ends, counting_full}
use Rattle.update_focus.proofs.way.length.Goals as goal

pub returns-then-is_none : goal.returns-then-is_none
returns-then-is_none c = search (rules, counting_ends)

pub loop-k-preserved : goal.loop-k-preserved
loop-k-preserved c = search (rules, counting_goes)

pub returns : goal.returns
returns c = search (rules, counting_full)
