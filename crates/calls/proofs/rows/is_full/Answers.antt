-- `rows::is_full` meets its contract: the search of the table says both. Assumes nothing.
use Rattle.base.specs.Tests.{◌and◌}
use Rattle.record.specs.Parse.{batch_of}
use Rattle.calls.proofs.rows.Outcomes.{full_is}
use Rattle.calls.proofs.rows.is_full.Goals as goal

pub returns : goal.returns
unfolding ◌and◌
returns c = let a = c.args in
    rw c.trees-m.ensures (full_is a.state.now (batch_of a.batch.now) _ (rw c.tree_id.ensures at c.find_tree.ensures))
