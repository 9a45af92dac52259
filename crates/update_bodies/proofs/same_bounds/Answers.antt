-- `update_bodies::same_bounds` meets its contract: four numbers. Assumes nothing.
use Rattle.base.specs.Tests.{◌and◌}
use Rattle.base.specs.Floats.{same_value}
use Rattle.geometry.specs.Geometry.{same_rect}
use Rattle.update_bodies.specs.Bodies.{bounds_of}
use Rattle.update_bodies.proofs.same_bounds.Goals as goal

pub returns : goal.returns
returns c =
    unfold same_rect bounds_of same_value ◌and◌ in rw (
      c.same_value-4.ensures,
      c.same_value-3.ensures,
      c.same_value-2.ensures,
      c.same_value.ensures,
    )
