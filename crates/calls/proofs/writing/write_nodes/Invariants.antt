-- `writing::write_nodes` meets its contract. The nodes before r are in their places. Assumes nothing.
use mathlib.Core.Path.{◌≡◌}
use Prim.Native.Nat.{◌≤◌}
use lib.ListN.{length}
use Rattle.base.specs.Regions.{fills}
use Rattle.state_array.specs.Filled.{nodes_regions}
use Rattle.calls.specs.Written.{nodes_after}
use Rattle.calls.proofs.writing.write_nodes.Given as goal

abbrev pub invariant-loop-r : goal.invariant-loop-r
invariant-loop-r l = (l.count ≡ length (nodes_after l.state l.batch l.scope)) × (l.count ≤ 320) × (l.next ≡ fills (nodes_regions (nodes_after l.state l.batch l.scope)) l.r l.initial.next)
