-- `geometry_box::are_finite` meets its contract: one test for each point. Assumes nothing.
use Rattle.base.specs.Tests.{◌and◌}
use Rattle.geometry_box.specs.Boxes.{finite_points}
use Rattle.geometry_box.proofs.are_finite.Goals as goal

pub returns : goal.returns
unfolding finite_points ◌and◌
returns c = rw (
  c.point_is_finite-4.ensures,
  c.point_is_finite-3.ensures,
  c.point_is_finite-2.ensures,
  c.point_is_finite.ensures,
)
