use mathlib.Core.Path.{refl}
use native.Mathlib.Omega.{arith}
use borrow.Author.Tests.{lt-ltb, le-ltb}
use Rattle.question_calls.specs.Places.{one_more}
use Rattle.question_calls.proofs.steps.one_more.Goals as goal

pub returns-then-level-lt-SLOTS : goal.returns-then-level-lt-SLOTS
unfolding one_more
returns-then-level-lt-SLOTS c = rw (lt-ltb _ _ c.if-level-lt-SLOTS.true) (omega arith)

pub returns-else-level-lt-SLOTS : goal.returns-else-level-lt-SLOTS
unfolding one_more
returns-else-level-lt-SLOTS c = rw (le-ltb _ _ c.if-level-lt-SLOTS.false) refl
