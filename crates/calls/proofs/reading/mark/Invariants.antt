-- `reading::mark` meets its contract. Assumes nothing.
use Rattle.calls.proofs.reading.Reading.{Marking}
use Rattle.calls.proofs.reading.mark.Given as goal

abbrev pub invariant-loop-j : goal.invariant-loop-j
invariant-loop-j l = Marking l.from l.to l.n l.initial.notes l.j l.notes
