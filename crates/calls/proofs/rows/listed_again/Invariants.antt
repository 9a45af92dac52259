-- `rows::listed_again` meets its contract: the numbers passed are read out, and differ. Assumes nothing.
use Rattle.record.specs.Parse.{batch_of}
use Rattle.calls.proofs.rows.Clashes.{Listing}
use Rattle.calls.proofs.rows.listed_again.Given as goal

abbrev pub invariant-loop-i : goal.invariant-loop-i
invariant-loop-i l = Listing (batch_of l.batch) l.k l.i l.seen
