-- `gone::write_fates` meets its contract. Assumes nothing.
use Rattle.calls.specs.Layout.{FATES}
use Rattle.calls.specs.Fates.{fate_word}
use Rattle.base.proofs.Loops.{Filling}
use Rattle.calls.proofs.gone.write_fates.Given as goal

abbrev pub invariant-loop-i : goal.invariant-loop-i
invariant-loop-i l = Filling FATES l.i-end l.i-end (fate_word l.state l.batch l.scope) l.initial.notes l.i l.notes
