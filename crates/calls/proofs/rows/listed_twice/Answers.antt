-- `rows::listed_twice` meets its contract: whether a node is listed again. Assumes nothing.
use mathlib.Core.Path.{◌∙◌}
use Rattle.calls.proofs.rows.Clashes.{again_twice}
use Rattle.calls.proofs.rows.listed_twice.Goals as goal

pub returns : goal.returns
returns c = c.is_some.ensures ∙ again_twice _ _ c.listed_again.ensures
