-- `record_layout::no_bounds` meets its contract. Assumes nothing.
use Rattle.base.specs.Tests.{◌and◌}
use Rattle.geometry.specs.Geometry.{rect_test}
use Rattle.record_layout.proofs.no_bounds.Goals as goal

pub returns : goal.returns
unfolding ◌and◌ rect_test
returns c = rw (c.zero_at-4.ensures, c.zero_at-3.ensures, c.zero_at-2.ensures, c.zero_at.ensures)
