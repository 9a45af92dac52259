-- `geometry_box::do_meet` meets its contract: in each arm the boxes are their constructors, of which `meet` computes. Assumes nothing.
use Rattle.geometry_box.specs.Boxes.{is_empty, meet}
use Rattle.geometry_box.proofs.do_meet.Goals as goal

pub returns-in-Box-c : goal.returns-in-Box-c
unfolding meet is_empty
returns-in-Box-c c = rw (c.in-Box.is, c.in-Box-c.is) cc

pub returns-in-None-c : goal.returns-in-None-c
unfolding meet
returns-in-None-c c = rw (c.in-Box.is, c.in-None-c.is)

pub returns-in-None : goal.returns-in-None
unfolding meet
returns-in-None c = rw c.in-None.is
