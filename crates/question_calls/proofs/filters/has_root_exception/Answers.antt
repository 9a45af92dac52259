-- `filters::has_root_exception` meets its contract: case by case. Assumes nothing.
use mathlib.Core.Path.{refl}
use Rattle.question_calls.specs.Filters.{has_root_exception}
use Rattle.question_calls.proofs.filters.has_root_exception.Goals as goal

pub returns-in-Common : goal.returns-in-Common
unfolding has_root_exception
returns-in-Common c = rw c.in-Common.is refl

pub returns-in-WithRootException : goal.returns-in-WithRootException
unfolding has_root_exception
returns-in-WithRootException c = rw c.in-WithRootException.is refl

pub returns-in-WithoutParentChecks : goal.returns-in-WithoutParentChecks
unfolding has_root_exception
returns-in-WithoutParentChecks c = rw c.in-WithoutParentChecks.is refl
