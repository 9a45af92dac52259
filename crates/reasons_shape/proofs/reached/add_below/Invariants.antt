-- `reasons_shape::reached::add_below` meets its contract: the links of each place passed are added. Assumes nothing.
use Rattle.reasons_shape.proofs.reached.Meeting.{Adding}
use Rattle.reasons_shape.proofs.reached.add_below.Given as goal

abbrev pub invariant-loop-place : goal.invariant-loop-place
invariant-loop-place l = Adding l.state l.x l.p l.initial.all l.place l.all
