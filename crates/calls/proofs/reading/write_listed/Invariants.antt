-- `reading::write_listed` meets its contract. Assumes nothing.
use Rattle.record.specs.Parse.{batch_of}
use Rattle.record_reader.specs.Reader.{listed_at}
use Rattle.calls.specs.Layout.{LISTED}
use Rattle.base.proofs.Loops.{Filling}
use Rattle.calls.proofs.reading.write_listed.Given as goal

abbrev pub invariant-loop-i : goal.invariant-loop-i
invariant-loop-i l = Filling LISTED 64 l.i-end (λ j. (listed_at (batch_of l.batch) j).id.0) l.initial.notes l.i l.notes
