-- `update_bodies::same_transform` meets its contract: six numbers. Assumes nothing.
use Rattle.base.specs.Tests.{◌and◌}
use Rattle.base.specs.Floats.{same_value}
use Rattle.geometry.specs.Geometry.{same_affine}
use Rattle.update_bodies.specs.Bodies.{transform_of}
use Rattle.update_bodies.proofs.same_transform.Goals as goal

pub returns : goal.returns
unfolding same_affine transform_of same_value ◌and◌
returns c =
    rw (c.same_value.ensures, c.same_value-2.ensures, c.same_value-3.ensures, c.same_value-4.ensures, c.same_value-5.ensures, c.same_value-6.ensures)
