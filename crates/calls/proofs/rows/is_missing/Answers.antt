-- `rows::is_missing` meets its contract: the code is the definition's test. Assumes nothing.
use Rattle.base.specs.Tests.{◌and◌}
use Rattle.update.specs.Words.{with_tree_data}
use Rattle.calls.specs.Parts.{missing}
use Rattle.calls.proofs.rows.is_missing.Goals as goal

pub returns : goal.returns
unfolding missing with_tree_data ◌and◌
returns c = rw (c.has_tree_data.ensures, c.is_root_id.ensures, c.exists.ensures, c.tree_id-id.ensures)
