-- `update_focus::way::node_at` meets its contract: node i of the way is passed. Assumes nothing.
use Rattle.update_focus.proofs.Ways.{Walking}
use Rattle.update_focus.proofs.way.node_at.Given as goal

abbrev pub invariant-loop-i : goal.invariant-loop-i
invariant-loop-i l = Walking l.state l.k l.m l.i l.at
