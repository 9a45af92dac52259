-- `node::parent` meets its contract: refused, or what is found in the slot. Assumes nothing.
use mathlib.Core.Path.{◌∙◌}
use Rattle.state.specs.State.{parent_at}
use Rattle.node_answers.specs.Links.{parent_answer}
use Rattle.node_answers.proofs.Answers.{answer_exit}
use Rattle.question_calls.proofs.node_asked.Asks.{asked_given}
use Rattle.question_calls.proofs.node.parent.Goals as goal

pub returns-in_err-slot : goal.returns-in_err-slot
unfolding parent_answer
returns-in_err-slot c = answer_exit _ _ _ c.from_residual.ensures.1 c.in_err-slot.ensures.number_is

pub returns : goal.returns
unfolding parent_answer
returns c = asked_given _ _ _ c.in_ok-slot.ensures (λ f x. parent_at f.nodes x) _ (λ sound there. c.node_at.ensures ∙ c.parent_slot.ensures sound there)
