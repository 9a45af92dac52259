-- `geometry_box::greater` meets its contract: each arm returns what the test picks. Assumes nothing.
use Rattle.geometry_box.specs.Boxes.{greatest}
use Rattle.geometry_box.proofs.greater.Goals as goal

pub returns-then-x-y : goal.returns-then-x-y
unfolding greatest
returns-then-x-y c = rw c.if-x-y.true

pub returns-else-x-y : goal.returns-else-x-y
unfolding greatest
returns-else-x-y c = rw c.if-x-y.false
