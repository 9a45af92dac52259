-- `shown::filtered_parent` meets its contract: the first included node from the parent on. Assumes nothing.
use mathlib.Core.Path.{sym, ◌∙◌}
use Rattle.questions.specs.Filters.{filter_of}
use Rattle.question_calls.proofs.shown.Above.{parent_from}
use Rattle.question_calls.proofs.shown.filtered_parent.Goals as goal

pub returns : goal.returns
returns c = λ sound there. c.nearest-up.ensures.included_value ∙ sym (parent_from (filter_of _ _) _ sound _ _ there (c.parent_slot-p.ensures sound there))
