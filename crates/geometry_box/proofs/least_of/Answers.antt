-- `geometry_box::least_of` meets its contract. Assumes nothing.
use Rattle.geometry_box.specs.Boxes.{least_of}
use Rattle.geometry_box.proofs.least_of.Goals as goal

pub returns : goal.returns
unfolding least_of
returns c = rw (
  c.with_plus_zero.ensures,
  c.lesser-3.ensures,
  c.lesser-2.ensures,
  c.lesser.ensures,
)
