-- `node::tree_state::tree_id` meets its contract: refused, or what is found. Assumes nothing.
use Rattle.node_answers.specs.TreeState.{tree_id_answer}
use Rattle.node_answers.proofs.Answers.{answer_exit, answer_given}
use Rattle.question_calls.proofs.node.tree_state.tree_id.Goals as goal

pub returns-in_err-asked : goal.returns-in_err-asked
unfolding tree_id_answer
returns-in_err-asked c = answer_exit _ _ _ c.from_residual.ensures.1 c.in_err-asked.ensures

pub returns : goal.returns
unfolding tree_id_answer
returns c = answer_given _ _ c.in_ok-asked.ensures c.found_id.ensures
