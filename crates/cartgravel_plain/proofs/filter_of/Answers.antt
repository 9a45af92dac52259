-- `cartgravel_plain::filter_of` meets its contract: by the number. Assumes nothing.
use mathlib.Core.Path.{refl}
use native.Mathlib.Omega.{arith}
use Rattle.questions.specs.Kept.{filter_choice}
use Rattle.cartgravel_plain.specs.Plain.{filter_numbered}
use Rattle.cartgravel_plain.proofs.Numbers.{no_filter}
use Rattle.cartgravel_plain.proofs.filter_of.Goals as goal

pub returns-in-1 : goal.returns-in-1
unfolding filter_numbered filter_choice
returns-in-1 c = rw c.in-1.is refl

pub returns-in-2 : goal.returns-in-2
unfolding filter_numbered filter_choice
returns-in-2 c = rw c.in-2.is refl

pub returns-in-3 : goal.returns-in-3
unfolding filter_numbered filter_choice
returns-in-3 c = rw c.in-3.is refl

pub returns-in_default : goal.returns-in_default
returns-in_default c = no_filter _ (λ e. omega (arith, e)) (λ e. omega (arith, e)) (λ e. omega (arith, e))
