-- `state_fields::fields_are_ok` meets its contract: each slot passed obeys the rules. Assumes nothing.
use Rattle.base.proofs.Scan.{scan}
use Rattle.state_fields.proofs.Fields.{fields_indexed}
use Rattle.state_fields.proofs.fields_are_ok.Goals as goal

pub loop-i-init : goal.loop-i-init
loop-i-init c = search scan

pub returns-then-not-fields_ok_at : goal.returns-then-not-fields_ok_at
returns-then-not-fields_ok_at c = search (scan, fields_indexed)

pub loop-i-preserved : goal.loop-i-preserved
loop-i-preserved c = search scan

pub returns : goal.returns
returns c = search (scan, fields_indexed)
