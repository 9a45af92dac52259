-- `geometry_box::overlap` meets its contract: each arm returns what the test picks. Assumes nothing.
use Rattle.geometry_box.specs.Boxes.{cut_at_zero, overlap}
use Rattle.geometry_box.proofs.overlap.Goals as goal

pub returns-then-length : goal.returns-then-length
unfolding overlap cut_at_zero
returns-then-length c = rw (← c.lesser.ensures, ← c.greater.ensures, c.if-length.true)

pub returns-else-length : goal.returns-else-length
unfolding overlap cut_at_zero
returns-else-length c = rw (← c.lesser.ensures, ← c.greater.ensures, c.if-length.false)
