-- `answers::lengths_of` meets its contract. Assumes nothing.
use mathlib.Core.Path.{refl}
use Rattle.calls.proofs.answers.lengths_of.Statement.{statement}
use Rattle.calls.proofs.answers.lengths_of.Tie as tie

returns : tie.Need-returns
returns c = refl

pub lengths_of_spec : {M : Type 1} → statement M
lengths_of_spec = tie.close (tie.spec returns)
