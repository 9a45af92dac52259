-- `state_array::transform_at` meets its contract: six reads. Assumes nothing.
use Rattle.state_array.specs.View.{transform_in}
use Rattle.state_array.proofs.transform_at.Goals as goal

pub returns : goal.returns
unfolding transform_in
returns c =
    rw (
      c.float_at-6.ensures,
      c.float_at-5.ensures,
      c.float_at-4.ensures,
      c.float_at-3.ensures,
      c.float_at-2.ensures,
      c.float_at.ensures,
    )
