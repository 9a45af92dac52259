-- `node::bounding_box` meets its contract: refused, or what is found in the slot. Assumes nothing.
use Rattle.questions.specs.Boxes.{bounding_box}
use Rattle.node_answers.specs.Links.{box_answer}
use Rattle.node_answers.proofs.Answers.{answer_exit}
use Rattle.question_calls.proofs.node_asked.Asks.{asked_given}
use Rattle.question_calls.proofs.node.bounding_box.Goals as goal

pub returns-in_err-slot : goal.returns-in_err-slot
unfolding box_answer
returns-in_err-slot c = answer_exit _ _ _ c.from_residual.ensures.1 c.in_err-slot.ensures.number_is

pub returns : goal.returns
unfolding box_answer
returns c = asked_given _ _ _ c.in_ok-slot.ensures bounding_box _ c.bounding_box.ensures
