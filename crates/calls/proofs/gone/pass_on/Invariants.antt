-- `gone::pass_on` meets its contract. Assumes nothing.
use Prim.Native.Nat.{◌-◌}
use Rattle.calls.specs.Fates.{Fated}
use Rattle.calls.proofs.gone.Climb.{Climbing}
use Rattle.calls.proofs.gone.pass_on.Given as goal

abbrev pub invariant-loop : goal.invariant-loop
invariant-loop l = Climbing l.state l.batch l.fn.scope l.i (l.end - l.counter) l.at × Fated l.i l.state l.batch l.fn.scope l.notes
