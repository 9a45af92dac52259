-- `reasons_shape::fields` meets its contract: the fields of each node passed obey the rules. Assumes nothing.
use Rattle.reasons_shape.proofs.Slots.{Seeking}
use Rattle.record.specs.Batch.{fields_ok}
use mathlib.Core.Bool.{not}
use Rattle.reasons_shape.proofs.fields.Given as goal

abbrev pub invariant-loop-i : goal.invariant-loop-i
invariant-loop-i l = Seeking l.state (λ n. not (fields_ok n.body)) l.i
