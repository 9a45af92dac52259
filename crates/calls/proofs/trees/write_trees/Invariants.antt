-- `trees::write_trees` meets its contract. The trees before k are in their places. Assumes nothing.
use mathlib.Core.Path.{◌≡◌}
use lib.ListN.{length}
use Rattle.base.specs.Regions.{fills}
use Rattle.state_array.specs.Filled.{trees_regions}
use Rattle.calls.specs.Trees.{trees_after}
use Rattle.calls.proofs.trees.write_trees.Given as goal

abbrev pub invariant-loop-k : goal.invariant-loop-k
invariant-loop-k l = (l.count ≡ length (trees_after l.state l.batch l.scope)) × (l.next ≡ fills (trees_regions (trees_after l.state l.batch l.scope)) l.k l.initial.next)
