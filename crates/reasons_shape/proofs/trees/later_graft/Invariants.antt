-- `reasons_shape::trees::later_graft` meets its contract: no node passed grafts the tree. Assumes nothing.
use Prim.Native.Nat.{◌+◌}
use Rattle.reasons_shape.proofs.TreeRules.{Holding}
use Rattle.reasons_shape.proofs.trees.later_graft.Given as goal

abbrev pub invariant-loop-j : goal.invariant-loop-j
invariant-loop-j l = Holding l.state l.t (l.i + 1) l.j
