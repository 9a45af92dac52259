-- `geometry_box::identity` meets its contract: the six numbers. Assumes nothing.
use mathlib.Core.Path.{refl}
use Rattle.geometry_box.specs.Boxes.{identity}
use Rattle.geometry_box.proofs.identity.Statement.{statement}
use Rattle.geometry_box.proofs.identity.Tie as tie

returns : tie.Need-returns
unfolding identity
returns c = refl

pub identity_spec : {M : Type 1} → statement M
identity_spec = tie.close (tie.spec returns)
