-- `reasons_shape::trees::is_rooted` meets its contract: a law for each way out. Assumes nothing.
use Rattle.base.specs.Tests.{◌and◌}
use Rattle.state_rules.proofs.Trees.{rooted_unborn, rooted_found}
use borrow.Author.Rules.{rules}
use Rattle.reasons_shape.proofs.trees.is_rooted.Goals as goal

pub returns-then-t-eq0 : goal.returns-then-t-eq0
returns-then-t-eq0 c = search (rules, rooted_unborn)

pub returns : goal.returns
unfolding ◌and◌
returns c =
    let a = c.args in
    cc (rooted_found a.state.now a.k c.tree_at-t.ensures c.if-t-eq0.false c.find_in.ensures)
