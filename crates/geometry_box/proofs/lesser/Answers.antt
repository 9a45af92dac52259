-- `geometry_box::lesser` meets its contract: each arm returns what the test picks. Assumes nothing.
use Rattle.geometry_box.specs.Boxes.{least}
use Rattle.geometry_box.proofs.lesser.Goals as goal

pub returns-then-y-x : goal.returns-then-y-x
unfolding least
returns-then-y-x c = rw c.if-y-x.true

pub returns-else-y-x : goal.returns-else-y-x
unfolding least
returns-else-y-x c = rw c.if-y-x.false
