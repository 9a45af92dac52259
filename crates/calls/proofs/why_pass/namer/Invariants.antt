-- `why_pass::namer` meets its contract: the entries of the nodes passed end before j. Assumes nothing.
use Prim.Native.Nat.{◌+◌}
use lib.Dec.{ltb}
use lib.ListN.{get_or}
use Rattle.base.proofs.Loops.{Passing}
use Rattle.calls.specs.Layout.{ENDS}
use Rattle.calls.proofs.why_pass.namer.Given as goal

abbrev pub invariant-loop-i : goal.invariant-loop-i
invariant-loop-i l = Passing (λ m. ltb l.j (get_or l.notes (ENDS + m) 0)) l.scope.listed l.i
