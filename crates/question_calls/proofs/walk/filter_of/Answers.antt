-- `walk::filter_of` meets its contract: 1, 2 and 3. Assumes nothing.
use mathlib.Core.Path.{◌≡◌, ap}
use native.Mathlib.Omega.{arith}
use Rattle.questions.specs.Kept.{filter_choice}
use Rattle.question_calls.proofs.walk.filter_of.Goals as goal

pub returns-in-1 : goal.returns-in-1
unfolding filter_choice
returns-in-1 c = let e : c.args.number ≡ 1 = omega arith in ap filter_choice e

pub returns-in-2 : goal.returns-in-2
unfolding filter_choice
returns-in-2 c = let e : c.args.number ≡ 2 = omega arith in ap filter_choice e

pub returns-in_default : goal.returns-in_default
unfolding filter_choice
returns-in_default c = let e : c.args.number ≡ 3 = omega arith in ap filter_choice e
