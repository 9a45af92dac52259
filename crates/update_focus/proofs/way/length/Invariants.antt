-- `update_focus::way::length` meets its contract: each place passed has a node. Assumes nothing.
use Rattle.update_focus.proofs.Ways.{Counting}
use Rattle.update_focus.proofs.way.length.Given as goal

abbrev pub invariant-loop-k : goal.invariant-loop-k
invariant-loop-k l = Counting l.state l.k
