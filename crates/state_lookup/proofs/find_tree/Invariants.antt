-- `state_lookup::find_tree` meets its contract: no number passed has the tree id. Assumes nothing.
use Rattle.base.proofs.Scan.{Missed}
use Rattle.ids.specs.Ids.{same_tree}
use Rattle.state_array.specs.View.{tree_in}
use Rattle.state_lookup.proofs.find_tree.Given as goal

abbrev pub invariant-loop-k : goal.invariant-loop-k
invariant-loop-k l = Missed (λ i. same_tree l.id (tree_in l.state i).id) l.m l.k
