-- `geometry_box::greatest_of` meets its contract. Assumes nothing.
use Rattle.geometry_box.specs.Boxes.{greatest_of}
use Rattle.geometry_box.proofs.greatest_of.Goals as goal

pub returns : goal.returns
unfolding greatest_of
returns c = rw (
  c.with_plus_zero.ensures,
  c.greater-3.ensures,
  c.greater-2.ensures,
  c.greater.ensures,
)
