-- `node::tree_state::found_id` meets its contract: a law for each way out. Assumes nothing.
use native.Mathlib.Omega.{arith}
use Rattle.node_answers.proofs.TreeState.{no_id, tree_id_is}
use Rattle.question_calls.proofs.node.tree_state.found_id.Goals as goal

pub returns-then-trees-k : goal.returns-then-trees-k
returns-then-trees-k c =
    let a = c.args in
    no_id a.state.now a.index (omega (arith, c.trees.ensures))

pub returns : goal.returns
returns c =
    let a = c.args in
    tree_id_is a.state.now a.index (omega (arith, c.trees.ensures)) _ c.tree_at-t.ensures
