-- `reading::find_each` meets its contract. Assumes nothing.
use Rattle.calls.specs.Reading.{slot_word}
use Rattle.base.proofs.Loops.{Filling}
use Rattle.calls.proofs.reading.find_each.Given as goal

abbrev pub invariant-loop-j : goal.invariant-loop-j
invariant-loop-j l = Filling l.to l.count l.count (slot_word l.state l.t l.initial.notes l.from) l.initial.notes l.j l.notes
