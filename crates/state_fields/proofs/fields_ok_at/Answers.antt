-- `state_fields::fields_ok_at` meets its contract: one test for each rule. Assumes nothing.
use Rattle.base.specs.Tests.{◌and◌}
use Rattle.state_fields.proofs.Fields.{fields_read}
use Rattle.state_fields.proofs.fields_ok_at.Goals as goal

pub returns : goal.returns
unfolding ◌and◌
returns c =
    let a = c.args in cc (fields_read a.state.now a.i)
