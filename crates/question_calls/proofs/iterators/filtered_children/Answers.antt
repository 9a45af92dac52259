-- `iterators::filtered_children` meets its contract: refused, or what is found from the slot. Assumes nothing.
use Rattle.questions.specs.Filters.{filter_of}
use Rattle.questions.specs.Walks.{filtered_children}
use Rattle.node_answers.proofs.Answers.{list_exit}
use Rattle.question_calls.proofs.iterators.Lists.{list_asked, children_listed}
use Rattle.question_calls.proofs.iterators.filtered_children.Goals as goal

pub returns-in_err-slot : goal.returns-in_err-slot
returns-in_err-slot c = list_exit _ _ _ _ _ _ _ c.from_residual.ensures.1 c.in_err-slot.ensures.number_is

pub known_at-known-requires : goal.known_at-known-requires
known_at-known-requires c = c.in_ok-slot.ensures.stands.is_sound

pub shown_child-place-requires : goal.shown_child-place-requires
shown_child-place-requires c = record { sound = c.in_ok-slot.ensures.stands.is_sound; knows = c.known_at-known.ensures }

pub list_from-requires : goal.list_from-requires
list_from-requires c = record { sound = c.in_ok-slot.ensures.stands.is_sound; knows = c.known_at-known.ensures }

pub returns : goal.returns
returns c =
    let q = c.in_ok-slot.ensures in
    rw (← c.focused_slot-focused.ensures q.stands.is_sound)
    (list_asked _ _ _ q (filtered_children (filter_of _ _)) _ _ _ _
    (λ sound there. children_listed (filter_of _ _) _ _ _ _ (c.shown_child-place.ensures.of_slot sound there)) c.list_from.ensures)
