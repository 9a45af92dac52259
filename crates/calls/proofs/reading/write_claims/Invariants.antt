-- `reading::write_claims` meets its contract. Assumes nothing.
use Rattle.calls.specs.Layout.{CLAIMS}
use Rattle.calls.specs.Reading.{claim_of}
use Rattle.base.proofs.Loops.{Filling}
use Rattle.calls.proofs.reading.write_claims.Given as goal

abbrev pub invariant-loop-i : goal.invariant-loop-i
invariant-loop-i l = Filling CLAIMS 64 l.i-end (claim_of l.state l.batch l.initial.notes) l.initial.notes l.i l.notes
