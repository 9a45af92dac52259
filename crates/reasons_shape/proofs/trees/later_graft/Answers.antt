-- `reasons_shape::trees::later_graft` meets its contract: no node passed grafts the tree. Assumes nothing.
use Rattle.reasons_shape.proofs.TreeRules.{holding_more, holding_here, holding_end}
use borrow.Author.Rules.{rules}
use Rattle.reasons_shape.proofs.trees.later_graft.Goals as goal

pub returns-then-is_graft_of : goal.returns-then-is_graft_of
returns-then-is_graft_of c = search (rules, holding_here)

pub loop-j-preserved : goal.loop-j-preserved
loop-j-preserved c = search (rules, holding_more)

pub returns : goal.returns
returns c = search (rules, holding_end)
