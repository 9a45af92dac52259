-- `reasons_shape::trees::graft_twice` meets its contract: no tree that a node passed grafts is grafted later. Assumes nothing.
use Rattle.reasons_shape.proofs.TreeRules.{Regrafting}
use Rattle.reasons_shape.proofs.trees.graft_twice.Given as goal

abbrev pub invariant-loop-i : goal.invariant-loop-i
invariant-loop-i l = Regrafting l.state l.i
