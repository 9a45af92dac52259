-- `gone::write_goes` meets its contract. Assumes nothing.
use Rattle.calls.specs.Fates.{Fated}
use Rattle.calls.proofs.gone.write_goes.Given as goal

abbrev pub invariant-loop-i : goal.invariant-loop-i
invariant-loop-i l = Fated l.i l.state l.batch l.scope l.notes
