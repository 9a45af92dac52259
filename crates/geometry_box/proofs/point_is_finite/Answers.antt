-- `geometry_box::point_is_finite` meets its contract: one test for each number. Assumes nothing.
use Rattle.base.specs.Tests.{◌and◌}
use Rattle.geometry_box.specs.Boxes.{finite_point}
use Rattle.geometry_box.proofs.point_is_finite.Goals as goal

pub returns : goal.returns
unfolding finite_point ◌and◌
returns c = rw (c.is_finite-2.ensures, c.is_finite.ensures)
