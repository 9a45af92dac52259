-- `geometry_box::product` meets its contract: the six sums. Assumes nothing.
use mathlib.Core.Path.{refl}
use Rattle.geometry_box.specs.Boxes.{linear, shifted, product}
use Rattle.geometry_box.proofs.product.Statement.{statement}
use Rattle.geometry_box.proofs.product.Tie as tie

returns : tie.Need-returns
unfolding linear shifted product
returns c = refl

pub product_spec : {M : Type 1} → statement M
product_spec = tie.close (tie.spec returns)
