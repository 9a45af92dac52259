-- `reports::is_pane_root` meets its contract: the scope says the batch's root, its tree and whether it has tree data. Assumes nothing.
use Rattle.std.specs.Prelude.{Option, Some}
use mathlib.Core.Path.{ap, ◌∙◌}
use Rattle.base.specs.Tests.{◌and◌, same_option}
use Rattle.ids.specs.Ids.{same_id}
use Rattle.ids.specs.declared.FullNodeId.{FullNodeId}
use Rattle.update.specs.Words.{is_root}
use Rattle.update.specs.Outcome.{pane_root}
use Rattle.calls.proofs.reports.is_pane_root.Goals as goal

pub returns : goal.returns
unfolding pane_root is_root ◌and◌
returns c =
    let a = c.args in
    λ s b scoped.
    rw (c.is_root.ensures ∙ ap (λ (o : Option FullNodeId). same_option same_id o (Some a.x)) scoped.root, scoped.tree_data, scoped.root_tree)
