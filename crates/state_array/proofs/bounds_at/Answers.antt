-- `state_array::bounds_at` meets its contract: four reads. Assumes nothing.
use Rattle.state_array.specs.View.{bounds_in}
use Rattle.state_array.proofs.bounds_at.Goals as goal

pub returns : goal.returns
unfolding bounds_in
returns c =
    rw (
      c.float_at-4.ensures,
      c.float_at-3.ensures,
      c.float_at-2.ensures,
      c.float_at.ensures,
    )
