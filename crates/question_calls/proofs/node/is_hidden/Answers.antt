-- `node::is_hidden` meets its contract: refused, or what is found in the slot. Assumes nothing.
use Rattle.questions.specs.Links.{is_hidden}
use Rattle.node_answers.specs.Links.{hidden_answer}
use Rattle.node_answers.proofs.Answers.{answer_exit}
use Rattle.question_calls.proofs.node_asked.Asks.{asked_given}
use Rattle.question_calls.proofs.node.is_hidden.Goals as goal

pub returns-in_err-slot : goal.returns-in_err-slot
unfolding hidden_answer
returns-in_err-slot c = answer_exit _ _ _ c.from_residual.ensures.1 c.in_err-slot.ensures.number_is

pub returns : goal.returns
unfolding hidden_answer
returns c = asked_given _ _ _ c.in_ok-slot.ensures is_hidden _ c.is_hidden.ensures
