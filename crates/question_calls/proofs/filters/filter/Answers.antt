-- `filters::filter` meets its contract: refused, or what the filter says of the node in the slot. Assumes nothing.
use Rattle.state_array.specs.View.{view}
use Rattle.questions.specs.Filters.{seen, filter_of}
use Rattle.node_answers.specs.Filter.{filter_answer}
use Rattle.node_answers.proofs.Answers.{answer_exit}
use Rattle.question_calls.proofs.node_asked.Asks.{asked_given}
use Rattle.question_calls.proofs.filters.filter.Goals as goal

pub returns-in_err-slot : goal.returns-in_err-slot
unfolding filter_answer
returns-in_err-slot c = answer_exit _ _ _ c.from_residual.ensures.1 c.in_err-slot.ensures.number_is

pub filter_at-requires : goal.filter_at-requires
filter_at-requires c = c.in_ok-slot.ensures.stands.is_sound

pub returns : goal.returns
unfolding filter_answer
returns c =
    let a = c.args in
    let q = c.in_ok-slot.ensures in
    asked_given _ _ _ q (λ f x. filter_of a.filter (seen (view a.state.now)) x) _ (rw (← c.focused_slot-focused.ensures q.stands.is_sound) c.filter_at.ensures)
