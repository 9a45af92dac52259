-- `reasons_shape::reached::no_link` meets its contract. Assumes nothing.
use mathlib.Core.Path.{refl}
use Rattle.state_array.specs.View.{link_of}
use Rattle.reasons_shape.proofs.reached.no_link.Statement.{statement}
use Rattle.reasons_shape.proofs.reached.no_link.Tie as tie

returns : tie.Need-returns
unfolding link_of
returns c = (refl, refl)

pub no_link_spec : {M : Type 1} → statement M
no_link_spec = tie.close (tie.spec returns)
