-- `state_rules::is_graft_of` meets its contract: one test for each part. Assumes nothing.
use Rattle.base.specs.Tests.{◌and◌}
use Rattle.ids.proofs.Ids.{tree_test}
use Rattle.state_rules.specs.Parts.{grafts_tree}
use Rattle.state_rules.proofs.is_graft_of.Goals as goal

pub returns : goal.returns
unfolding grafts_tree ◌and◌
returns c = cc (tree_test c.args.t c.shape_at-d.result.graft)
