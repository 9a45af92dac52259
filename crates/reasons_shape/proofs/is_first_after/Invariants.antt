-- `reasons_shape::is_first_after` meets its contract: each id passed comes after it. Assumes nothing.
use Prim.Native.Nat.{◌+◌}
use Rattle.reasons_shape.proofs.Slots.{Ahead}
use Rattle.reasons_shape.proofs.is_first_after.Given as goal

abbrev pub invariant-loop-j : goal.invariant-loop-j
invariant-loop-j l = Ahead l.state l.x (l.i + 1) l.j
