-- `record_layout::transform_finite` meets its contract. Assumes nothing.
use Rattle.base.specs.Tests.{◌and◌}
use Rattle.geometry.specs.Geometry.{affine_test}
use Rattle.record_layout.proofs.transform_finite.Goals as goal

pub returns : goal.returns
unfolding ◌and◌ affine_test
returns c =
    rw (
      c.finite_at-6.ensures,
      c.finite_at-5.ensures,
      c.finite_at-4.ensures,
      c.finite_at-3.ensures,
      c.finite_at-2.ensures,
      c.finite_at.ensures,
    )
