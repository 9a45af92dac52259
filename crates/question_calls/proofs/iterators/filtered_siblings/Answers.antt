-- `iterators::filtered_siblings` meets its contract: refused, or what is found from the slot. Assumes nothing.
use Rattle.questions.specs.Filters.{filter_of}
use Rattle.questions.specs.Walks.{filtered_siblings}
use Rattle.node_answers.proofs.Answers.{list_exit}
use Rattle.question_calls.proofs.iterators.Lists.{list_asked}
use Rattle.question_calls.proofs.iterators.filtered_siblings.Goals as goal

pub returns-in_err-slot : goal.returns-in_err-slot
returns-in_err-slot c = list_exit _ _ _ _ _ _ _ c.from_residual.ensures.1 c.in_err-slot.ensures.number_is

pub shown_sibling-start-requires : goal.shown_sibling-start-requires
shown_sibling-start-requires c = c.in_ok-slot.ensures.stands.is_sound

pub list_from-requires : goal.list_from-requires
list_from-requires c = record { sound = c.in_ok-slot.ensures.stands.is_sound; knows = c.shown_sibling-start.ensures.knows }

pub returns : goal.returns
returns c =
    let q = c.in_ok-slot.ensures in
    rw (← c.focused_slot-focused.ensures q.stands.is_sound)
    (list_asked _ _ _ q (filtered_siblings (filter_of _ _) _) _ _ _ _ c.shown_sibling-start.ensures.of_slot c.list_from.ensures)
