-- `filters::filter_at` meets its contract: case by case. Assumes nothing.
use Rattle.questions.specs.Filters.{filter_of}
use Rattle.question_calls.proofs.filters.filter_at.Goals as goal

pub returns-in-Common : goal.returns-in-Common
unfolding filter_of
returns-in-Common c = λ sound there. rw c.in-Common.is (c.common_filter_or_hidden.ensures sound there)

pub returns-in-WithRootException : goal.returns-in-WithRootException
unfolding filter_of
returns-in-WithRootException c = λ sound there. rw c.in-WithRootException.is (c.common_filter_with_root_exception.ensures sound there)

pub returns-in-WithoutParentChecks : goal.returns-in-WithoutParentChecks
unfolding filter_of
returns-in-WithoutParentChecks c = λ sound there. rw c.in-WithoutParentChecks.is (c.common_filter_without_parent_checks.ensures sound there)
