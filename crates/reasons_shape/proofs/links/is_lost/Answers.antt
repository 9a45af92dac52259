-- `reasons_shape::links::is_lost` meets its contract: one test for each part. Assumes nothing.
use Rattle.base.specs.Tests.{◌and◌}
use Rattle.reasons_shape.proofs.LinkRules.{lost_is}
use Rattle.reasons_shape.proofs.links.is_lost.Goals as goal

pub returns : goal.returns
unfolding ◌and◌
returns c =
    let a = c.args in
    cc (lost_is a.state.now a.p c.slots.ensures c.find_in.ensures c.is_unmet.ensures)
