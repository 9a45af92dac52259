-- `node::tree_state::found_ends` meets its contract: a law for each way out. Assumes nothing.
use native.Mathlib.Omega.{arith}
use Rattle.node_answers.proofs.TreeState.{no_ends, unborn_ends, ends_are}
use Rattle.question_calls.proofs.node.tree_state.found_ends.Goals as goal

pub returns-then-trees-k : goal.returns-then-trees-k
returns-then-trees-k c =
    let a = c.args in
    no_ends a.state.now a.index (omega (arith, c.trees.ensures))

pub returns-then-t-eq0 : goal.returns-then-t-eq0
returns-then-t-eq0 c =
    let a = c.args in
    unborn_ends a.state.now a.index (omega (arith, c.trees.ensures)) _ c.tree_at-t.ensures c.if-t-eq0.true

pub returns : goal.returns
returns c =
    let a = c.args in
    ends_are a.state.now a.index (omega (arith, c.trees.ensures)) _ c.tree_at-t.ensures c.if-t-eq0.false
