-- `reasons_shape::trees::unrooted` meets its contract: each tree passed is rooted. Assumes nothing.
use Rattle.reasons_shape.proofs.TreeRules.{Rooting}
use Rattle.reasons_shape.proofs.trees.unrooted.Given as goal

abbrev pub invariant-loop-k : goal.invariant-loop-k
invariant-loop-k l = Rooting l.state l.k
