-- `writing::write_children` meets its contract. The runs of the nodes before r are in their places. Assumes nothing.
use Rattle.state_array.proofs.Filled.{RunsTo}
use Prim.Native.Nat.{◌≤◌}
use Rattle.calls.specs.declared.notes.Scope.{Scope}
use Rattle.calls.specs.Says.{Told, PLANNED}
use Rattle.calls.specs.Written.{nodes_after}
use Rattle.calls.proofs.writing.write_children.Given as goal

abbrev pub invariant-loop-r : goal.invariant-loop-r
invariant-loop-r l = (l.count ≤ 320) × ((c : Scope) → Told PLANNED l.state l.batch c l.notes → RunsTo (nodes_after l.state l.batch c) l.r l.first l.initial.next l.next)
