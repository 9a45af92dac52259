-- `reasons_shape::trees::unrooted` meets its contract: each tree passed is rooted. Assumes nothing.
use Rattle.reasons_shape.proofs.TreeRules.{rooting_more, rooting_fails, rooting_end}
use borrow.Author.Rules.{rules}
use Rattle.reasons_shape.proofs.trees.unrooted.Goals as goal

pub returns-then-not-is_rooted : goal.returns-then-not-is_rooted
returns-then-not-is_rooted c = search (rules, rooting_fails)

pub loop-k-preserved : goal.loop-k-preserved
loop-k-preserved c = search (rules, rooting_more)

pub returns : goal.returns
returns c = search (rules, rooting_end)
