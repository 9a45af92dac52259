-- `walk::side_of` meets its contract: 0 and 1. Assumes nothing.
use mathlib.Core.Path.{◌≡◌, ap}
use native.Mathlib.Omega.{arith}
use Rattle.questions.specs.Kept.{side_of}
use Rattle.question_calls.proofs.walk.side_of.Goals as goal

pub returns-then-number-eq0 : goal.returns-then-number-eq0
unfolding side_of
returns-then-number-eq0 c = let e : c.args.number ≡ 0 = omega arith in ap side_of e

pub returns-else-number-eq0 : goal.returns-else-number-eq0
unfolding side_of
returns-else-number-eq0 c = let e : c.args.number ≡ 1 = omega arith in ap side_of e
