-- `reasons_shape::trees::tree_twice` meets its contract: each number passed has an id of its own. Assumes nothing.
use Rattle.reasons_shape.proofs.TreeRules.{Single}
use Rattle.reasons_shape.proofs.trees.tree_twice.Given as goal

abbrev pub invariant-loop-k : goal.invariant-loop-k
invariant-loop-k l = Single l.state l.k
