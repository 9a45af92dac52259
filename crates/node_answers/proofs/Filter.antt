-- The answer of the question about a filter. Assumes nothing.
use Rattle.std.specs.Prelude.{◌≡◌, None, Some}
use Rattle.std.specs.Result.{result_ok}
use Rattle.ids.specs.declared.FullNodeId.{FullNodeId}
use Rattle.state.specs.State.{State}
use Rattle.questions.specs.declared.Filter.{Filter}
use Rattle.questions.specs.Answers.{ask_number, after}
use Rattle.questions.specs.Filters.{seen, filter_of}
use Rattle.node_answers.specs.Answers.{number_of}
use Rattle.node_answers.specs.Filter.{filter_answer}
use Rattle.node_answers.proofs.Answers as answers

module _ (v : State) (x : FullNodeId) (filter : Filter) where
  -- its number is that of any question about a node, and after any number but 0 there is no result
  pub answer_number_lem : number_of (filter_answer v x filter) ≡ ask_number v.forest x
  unfolding filter_answer
  answer_number_lem = answers.ask_numbered (filter_of filter (seen v) x) v.forest x

  pub answer_after : result_ok (filter_answer v x filter) ≡ after (ask_number v.forest x) None (Some (filter_of filter (seen v) x))
  unfolding filter_answer
  answer_after = answers.answer_result (filter_of filter (seen v) x) (ask_number v.forest x)
