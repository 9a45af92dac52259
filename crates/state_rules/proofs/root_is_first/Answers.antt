-- `state_rules::root_is_first` meets its contract: one test for each part. Assumes nothing.
use Rattle.base.specs.Tests.{◌and◌}
use Rattle.ids.specs.Ids.{ROOT}
use Rattle.ids.proofs.Ids.{tree_test}
use Rattle.state_rules.proofs.Trees.{root_first_lem}
use Rattle.state_rules.proofs.root_is_first.Goals as goal

pub returns : goal.returns
unfolding ◌and◌
returns c = cc (root_first_lem c.args.state.now, tree_test c.tree_at-t.result.id ROOT)
