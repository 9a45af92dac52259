-- `rows::is_ungrafted` meets its contract: the search of the grafts says it. Assumes nothing.
use mathlib.Core.Path.{sym}
use Rattle.base.specs.Tests.{◌and◌}
use Rattle.base.proofs.Tests.{call_true, call_false}
use Rattle.record.specs.Parse.{batch_of}
use Rattle.update.specs.Words.{with_tree_data}
use Rattle.calls.specs.Parts.{ungrafted}
use Rattle.calls.proofs.rows.Outcomes.{ungrafted_is}
use Rattle.calls.proofs.rows.is_ungrafted.Goals as goal

pub returns-then-not-has_tree_data : goal.returns-then-not-has_tree_data
returns-then-not-has_tree_data c = unfold ungrafted with_tree_data ◌and◌ in (sym (rw (call_false c.has_tree_data.ensures c.if-not-has_tree_data.true)))

pub returns : goal.returns
unfolding ◌and◌
returns c = let a = c.args in
    rw (c.is_root_id.ensures, c.tree_id-id.ensures, c.slots.ensures)
    (ungrafted_is a.state.now (batch_of a.batch.now) _ (rw c.tree_id-id.ensures at c.holder_of.ensures) (call_true c.has_tree_data.ensures c.if-not-has_tree_data.false))
