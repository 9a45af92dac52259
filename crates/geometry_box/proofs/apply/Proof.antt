-- `geometry_box::apply` meets its contract: the two sums. Assumes nothing.
use mathlib.Core.Path.{refl}
use Rattle.geometry_box.specs.Boxes.{linear, shifted, image}
use Rattle.geometry_box.proofs.apply.Statement.{statement}
use Rattle.geometry_box.proofs.apply.Tie as tie

returns : tie.Need-returns
unfolding linear shifted image
returns c = refl

pub apply_spec : {M : Type 1} → statement M
apply_spec = tie.close (tie.spec returns)
