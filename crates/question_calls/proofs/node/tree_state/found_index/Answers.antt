-- `node::tree_state::found_index` meets its contract: a law for each way out. Assumes nothing.
use native.Mathlib.Omega.{arith}
use Rattle.node_answers.proofs.TreeState.{no_index, index_is}
use Rattle.question_calls.proofs.node.tree_state.found_index.Goals as goal

pub returns-then-trees-k : goal.returns-then-trees-k
returns-then-trees-k c =
    let a = c.args in
    no_index a.state.now a.id _ c.find_tree-k.ensures (omega (arith, c.trees.ensures))

pub returns : goal.returns
returns c =
    let a = c.args in
    index_is a.state.now a.id _ c.find_tree-k.ensures (omega (arith, c.trees.ensures))
