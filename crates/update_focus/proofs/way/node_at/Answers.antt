-- `update_focus::way::node_at` meets its contract: node i of the way is passed. Assumes nothing.
use borrow.Author.Rules.{rules}
use Rattle.update_focus.proofs.Ways.{walk_nowhere, walk_starts, walk_spent, walk_ends, walk_goes, walk_done}
use Rattle.update_focus.proofs.way.node_at.Goals as goal

pub returns-in_err-at : goal.returns-in_err-at
returns-in_err-at c = search (rules, walk_nowhere)

pub loop-i-init : goal.loop-i-init
loop-i-init c = walk_starts _ c.args.k c.focus_of.ensures c.in_ok-at.was c.trees-m.ensures

pub returns-then-m-i : goal.returns-then-m-i
returns-then-m-i c = search (rules, walk_spent)

pub returns-in_err-at-2 : goal.returns-in_err-at-2
returns-in_err-at-2 c = search (rules, walk_ends)

pub loop-i-preserved : goal.loop-i-preserved
loop-i-preserved c = search (rules, walk_goes)

pub returns : goal.returns
returns c = search (rules, walk_done)
