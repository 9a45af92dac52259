-- `node::tree_state::counts` meets its contract: refused, or what is counted. Assumes nothing.
use Rattle.base.proofs.Bytes.{length_list_of}
use Rattle.state_array.specs.View.{node_in, entry_in, slots_of, trees_of, view}
use Rattle.node_answers.specs.TreeState.{counts_answer}
use Rattle.node_answers.proofs.Answers.{answer_exit, answer_given}
use Rattle.question_calls.proofs.node.tree_state.counts.Goals as goal

pub returns-in_err-asked : goal.returns-in_err-asked
unfolding counts_answer
returns-in_err-asked c = answer_exit _ _ _ c.from_residual.ensures.1 c.in_err-asked.ensures

pub returns : goal.returns
unfolding counts_answer view
returns c =
    let s = c.args.state.now in
    answer_given _ _ c.in_ok-asked.ensures
    (rw (c.slots.ensures, c.trees.ensures, c.host.ensures, length_list_of (slots_of s) (node_in s), length_list_of (trees_of s) (entry_in s)))
