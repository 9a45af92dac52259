-- `cartgravel_plain::side_of` meets its contract: by the number. Assumes nothing.
use mathlib.Core.Path.{refl}
use native.Mathlib.Omega.{arith}
use Rattle.questions.specs.Kept.{side_of}
use Rattle.cartgravel_plain.specs.Plain.{side_numbered}
use Rattle.cartgravel_plain.proofs.Numbers.{no_side}
use Rattle.cartgravel_plain.proofs.side_of.Goals as goal

pub returns-in-0 : goal.returns-in-0
unfolding side_numbered side_of
returns-in-0 c = rw c.in-0.is refl

pub returns-in-1 : goal.returns-in-1
unfolding side_numbered side_of
returns-in-1 c = rw c.in-1.is refl

pub returns-in_default : goal.returns-in_default
returns-in_default c = no_side _ (λ e. omega (arith, e)) (λ e. omega (arith, e))
