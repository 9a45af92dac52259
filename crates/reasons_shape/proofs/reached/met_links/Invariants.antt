-- `reasons_shape::reached::met_links` meets its contract: the links below each node passed are added. Assumes nothing.
use Rattle.reasons_shape.proofs.reached.Meeting.{Meeting}
use Rattle.reasons_shape.proofs.reached.met_links.Given as goal

abbrev pub invariant-loop-p : goal.invariant-loop-p
invariant-loop-p l = Meeting l.state l.x l.p l.links
