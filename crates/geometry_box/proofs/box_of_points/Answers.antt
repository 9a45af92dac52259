-- `geometry_box::box_of_points` meets its contract. Assumes nothing.
use Rattle.geometry_box.specs.Boxes.{box_of_points}
use Rattle.geometry_box.proofs.box_of_points.Goals as goal

pub returns : goal.returns
unfolding box_of_points
returns c = rw (
  c.greatest_of-2.ensures,
  c.greatest_of.ensures,
  c.least_of-2.ensures,
  c.least_of.ensures,
)
