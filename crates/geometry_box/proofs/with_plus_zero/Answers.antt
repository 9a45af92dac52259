-- `geometry_box::with_plus_zero` meets its contract: each arm returns what the test picks. Assumes nothing.
use Rattle.geometry_box.specs.Boxes.{with_plus_zero}
use Rattle.geometry_box.proofs.with_plus_zero.Goals as goal

pub returns-then-x : goal.returns-then-x
unfolding with_plus_zero
returns-then-x c = rw c.if-x.true

pub returns-else-x : goal.returns-else-x
unfolding with_plus_zero
returns-else-x c = rw c.if-x.false
