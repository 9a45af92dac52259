-- `filters::is_plain` meets its contract: case by case. Assumes nothing.
use mathlib.Core.Path.{refl}
use Rattle.question_calls.specs.Filters.{is_plain}
use Rattle.question_calls.proofs.filters.is_plain.Goals as goal

pub returns-in-Common : goal.returns-in-Common
unfolding is_plain
returns-in-Common c = rw c.in-Common.is refl

pub returns-in-WithRootException : goal.returns-in-WithRootException
unfolding is_plain
returns-in-WithRootException c = rw c.in-WithRootException.is refl

pub returns-in-WithoutParentChecks : goal.returns-in-WithoutParentChecks
unfolding is_plain
returns-in-WithoutParentChecks c = rw c.in-WithoutParentChecks.is refl
