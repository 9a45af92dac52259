-- `iterators::filtered_parent` meets its contract: refused, or what is found from the slot. Assumes nothing.
use mathlib.Core.Path.{◌∙◌}
use Rattle.questions.specs.Filters.{filter_of}
use Rattle.question_calls.specs.Plain.{seen_at}
use Rattle.questions.specs.Walks.{filtered_parent}
use Rattle.node_answers.proofs.Answers.{answer_exit}
use Rattle.question_calls.proofs.node_asked.Asks.{asked_given}
use Rattle.question_calls.proofs.iterators.filtered_parent.Goals as goal

pub returns-in_err-slot : goal.returns-in_err-slot
returns-in_err-slot c = answer_exit _ _ _ c.from_residual.ensures.1 c.in_err-slot.ensures.number_is

pub filtered_parent-requires : goal.filtered_parent-requires
filtered_parent-requires c = c.in_ok-slot.ensures.stands.is_sound

pub returns : goal.returns
returns c =
    let a = c.args in
    let q = c.in_ok-slot.ensures in
    rw (← c.focused_slot-focused.ensures q.stands.is_sound)
    (asked_given _ _ _ q (filtered_parent (filter_of a.filter (seen_at a.state.now c.focused_slot-focused.result))) _ (λ sound there. c.node_at.ensures ∙ c.filtered_parent.ensures sound there))
