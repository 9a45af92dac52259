-- `cartgravel_plain::unknown` meets its contract: 2 of a sound state, else 1. Assumes nothing.
use mathlib.Core.Path.{refl, sym, ◌∙◌}
use Rattle.base.specs.Tables.{first}
use Rattle.cartgravel_plain.specs.Plain.{unknown_number}
use Rattle.cartgravel_plain.proofs.unknown.Goals as goal

pub returns-then-sound : goal.returns-then-sound
unfolding unknown_number first
returns-then-sound c = rw (sym c.sound.ensures ∙ c.if-sound.true) refl

pub returns-else-sound : goal.returns-else-sound
unfolding unknown_number first
returns-else-sound c = rw (sym c.sound.ensures ∙ c.if-sound.false) refl
