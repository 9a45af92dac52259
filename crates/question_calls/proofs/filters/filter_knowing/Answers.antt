-- `filters::filter_knowing` meets its contract: case by case. Assumes nothing.
use mathlib.Core.Path.{sym, ◌∙◌}
use Rattle.questions.specs.Filters.{filter_of}
use Rattle.question_calls.proofs.filters.Common.{exception_root, exception_other}
use Rattle.question_calls.proofs.filters.filter_knowing.Goals as goal

pub returns-in-Common : goal.returns-in-Common
unfolding filter_of
returns-in-Common c = λ sound there. rw c.in-Common.is (c.common_filter_knowing.ensures sound there)

pub returns-then-is_root : goal.returns-then-is_root
unfolding filter_of
returns-then-is_root c = λ sound there. rw c.in-WithRootException.is (exception_root _ _ (sym c.is_root.ensures ∙ c.if-is_root.true))

pub returns-else-is_root : goal.returns-else-is_root
unfolding filter_of
returns-else-is_root c = λ sound there.
    rw c.in-WithRootException.is (c.common_filter_knowing-else-is_root.ensures sound there ∙ exception_other _ _ (sym c.is_root.ensures ∙ c.if-is_root.false))

pub returns-in-WithoutParentChecks : goal.returns-in-WithoutParentChecks
unfolding filter_of
returns-in-WithoutParentChecks c = λ sound there. rw c.in-WithoutParentChecks.is (c.common_filter_without_parent_checks.ensures sound there)
