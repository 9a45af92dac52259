-- `rows::first_rows` meets its contract: a test for each row. Assumes nothing.
use Rattle.base.proofs.Tests.{call_true}
use Rattle.calls.specs.Rows.{first_number}
use Rattle.base.proofs.Loops.{rows}
use Rattle.calls.proofs.notes.Verdicts.{verdict_told}
use Rattle.calls.proofs.rows.first_rows.Goals as goal

pub returns-then-not-sound : goal.returns-then-not-sound
returns-then-not-sound c = verdict_told c.refuse.ensures (unfold first_number in (search rows))

pub returns-then-not-layout : goal.returns-then-not-layout
returns-then-not-layout c = verdict_told c.refuse-then-not-layout.ensures (unfold first_number in (search rows))

pub rows_before_pass-requires : goal.rows_before_pass-requires
rows_before_pass-requires c = call_true c.layout.ensures c.if-not-layout.false

pub returns : goal.returns
returns c = verdict_told c.rows_before_pass.ensures (unfold first_number in (search rows))
