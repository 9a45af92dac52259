-- `reading::write_named` meets its contract. Assumes nothing.
use lib.ListN.{get_or}
use Rattle.record_reader.specs.Reader.{no_node, entries_of}
use Rattle.calls.specs.Layout.{NAMED}
use Rattle.base.proofs.Loops.{Filling}
use Rattle.calls.proofs.reading.write_named.Given as goal

abbrev pub invariant-loop-i : goal.invariant-loop-i
invariant-loop-i l = Filling NAMED 256 l.i-end (λ j. (get_or (entries_of l.batch) j no_node).0) l.initial.notes l.i l.notes
