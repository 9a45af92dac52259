-- `rows::exists` meets its contract. Assumes nothing.
use mathlib.Core.Path.{sym, ap, ◌∙◌}
use Rattle.base.specs.Tests.{is_some}
use Rattle.calls.proofs.rows.exists.Goals as goal

pub returns-in_default : goal.returns-in_default
returns-in_default c = ap (λ o. is_some o) (sym c.in_default.is ∙ c.tree_of.ensures)

pub returns : goal.returns
returns c = ap (λ o. is_some o) (sym c.in-Some.is ∙ c.tree_of.ensures)
