-- `filters::known_at` meets its contract: nothing is known, or the node was asked. Assumes nothing.
use mathlib.Core.Path.{◌∙◌, ap}
use Rattle.questions.specs.Filters.{is_exclude_subtree}
use Rattle.question_calls.proofs.filters.known_at.Goals as goal

pub returns-then-is_plain : goal.returns-then-is_plain
returns-then-is_plain c = c.nothing_known.ensures _

pub returns-then-slots-met : goal.returns-then-slots-met
returns-then-slots-met c = c.nothing_known-then-slots-met.ensures _

pub returns : goal.returns
returns c = λ l.
    c.is_exclude_subtree.ensures ∙ ap is_exclude_subtree (c.common_filter_or_hidden-result.ensures c.requires l)
