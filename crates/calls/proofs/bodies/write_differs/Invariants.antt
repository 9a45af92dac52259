-- `bodies::write_differs` meets its contract. Assumes nothing.
use Rattle.calls.specs.Layout.{DIFFERS}
use Rattle.calls.specs.Says.{differ_word}
use Rattle.base.proofs.Loops.{Filling}
use Rattle.calls.proofs.bodies.write_differs.Given as goal

abbrev pub invariant-loop-i : goal.invariant-loop-i
invariant-loop-i l = Filling DIFFERS 64 l.i-end (differ_word l.state l.batch l.scope) l.initial.notes l.i l.notes
