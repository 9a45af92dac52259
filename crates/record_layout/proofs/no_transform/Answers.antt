-- `record_layout::no_transform` meets its contract. Assumes nothing.
use Rattle.base.specs.Tests.{◌and◌}
use Rattle.geometry.specs.Geometry.{affine_test}
use Rattle.record_layout.proofs.no_transform.Goals as goal

pub returns : goal.returns
unfolding ◌and◌ affine_test
returns c =
    rw (
      c.zero_at-6.ensures,
      c.zero_at-5.ensures,
      c.zero_at-4.ensures,
      c.zero_at-3.ensures,
      c.zero_at-2.ensures,
      c.zero_at.ensures,
    )
