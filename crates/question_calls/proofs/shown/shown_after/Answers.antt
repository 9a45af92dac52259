-- `shown::shown_after` meets its contract: what is met after a node is what is ahead of it. Assumes nothing.
use mathlib.Core.List.{flat_map}
use mathlib.Core.Path.{sym, ap, ◌∙◌}
use Rattle.question_calls.proofs.shown.shown_after.Goals as goal

pub returns : goal.returns
returns c = λ sound there. ap (flat_map _) (sym (c.after.ensures sound there)) ∙ c.shown_from.ensures.lists
