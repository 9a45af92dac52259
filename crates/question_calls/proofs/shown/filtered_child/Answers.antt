-- `shown::filtered_child` meets its contract: the first node of the list. Assumes nothing.
use Rattle.questions.specs.Filters.{filter_of}
use Rattle.question_calls.proofs.shown.Shown.{child_found}
use Rattle.question_calls.proofs.shown.filtered_child.Goals as goal

pub returns : goal.returns
returns c = record { of_slot = λ sound there. child_found _ _ sound (filter_of _ _) _ _ (c.shown_child-first.ensures.of_slot sound there); included = c.shown_child-first.ensures.included }
