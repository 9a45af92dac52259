-- `rows::is_root_id` meets its contract. Assumes nothing.
use mathlib.Core.Path.{◌∙◌}
use Rattle.ids.specs.Ids.{ROOT}
use Rattle.ids.proofs.Ids.{tree_test}
use Rattle.calls.proofs.rows.is_root_id.Goals as goal

pub returns : goal.returns
returns c = c.eq.ensures ∙ tree_test c.args.id ROOT
