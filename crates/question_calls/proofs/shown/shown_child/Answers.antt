-- `shown::shown_child` meets its contract: what is met from the first child on are the children. Assumes nothing.
use mathlib.Core.List.{flat_map}
use mathlib.Core.Path.{sym, ap, ◌∙◌}
use Rattle.question_calls.proofs.shown.Shown.{met_children}
use Rattle.question_calls.proofs.shown.shown_child.Goals as goal

pub returns : goal.returns
returns c = record { of_slot = λ sound there. ap (flat_map _) (sym (met_children _ _ sound _ _ there (c.first_child_slot-slot.ensures sound there))) ∙ c.shown_from.ensures.lists; included = c.shown_from.ensures.included }
