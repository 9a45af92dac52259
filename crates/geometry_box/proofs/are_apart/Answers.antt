-- `geometry_box::are_apart` meets its contract: in each arm the boxes are their constructors, of which `apart` computes. Assumes nothing.
use Rattle.geometry_box.specs.Boxes.{is_empty, apart}
use Rattle.geometry_box.proofs.are_apart.Goals as goal

pub returns-in-Box-c : goal.returns-in-Box-c
unfolding apart is_empty
returns-in-Box-c c = rw (c.in-Box.is, c.in-Box-c.is) cc

pub returns-in-None-c : goal.returns-in-None-c
unfolding apart
returns-in-None-c c = rw (c.in-Box.is, c.in-None-c.is)

pub returns-in-None : goal.returns-in-None
unfolding apart
returns-in-None c = rw c.in-None.is
