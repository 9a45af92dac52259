-- `state_fields::fields_are_ok` meets its contract: each slot passed obeys the rules. Assumes nothing.
use Rattle.base.proofs.Scan.{Passed}
use Rattle.record.specs.Batch.{fields_ok}
use Rattle.state_array.specs.View.{body_in}
use Rattle.state_fields.proofs.fields_are_ok.Given as goal

abbrev pub invariant-loop-i : goal.invariant-loop-i
invariant-loop-i l = Passed (λ k. fields_ok (body_in l.state k)) l.n l.i
