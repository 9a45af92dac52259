-- `reading::write_ends` meets its contract. Assumes nothing.
use Prim.Native.Nat.{◌+◌}
use lib.ListN.{length}
use Rattle.record.specs.Parse.{batch_of}
use Rattle.record_reader.specs.Reader.{listed_at, field_at}
use Rattle.calls.specs.Layout.{ENDS}
use Rattle.base.proofs.Loops.{Filling}
use Rattle.calls.proofs.reading.write_ends.Given as goal

abbrev pub invariant-loop-i : goal.invariant-loop-i
invariant-loop-i l = Filling ENDS 64 l.i-end (λ j. field_at 2 l.batch j 32 + length (listed_at (batch_of l.batch) j).body.children) l.initial.notes l.i l.notes
