-- `filters::is_root` meets its contract: ROOT's root, if ROOT exists. Assumes nothing.
use mathlib.Core.Path.{◌∙◌}
use Rattle.ids.proofs.Ids.{id_test}
use Rattle.question_calls.proofs.filters.Common.{root_none, root_some}
use Rattle.question_calls.proofs.filters.is_root.Goals as goal

pub returns-in-Some : goal.returns-in-Some
returns-in-Some c =
    c.eq.ensures
    ∙ id_test _ _
    ∙ root_some _ _ _ c.tree_of.ensures _ c.in-Some.is _ c.id_at.ensures

pub returns-in-None : goal.returns-in-None
returns-in-None c = root_none _ _ _ c.tree_of.ensures c.in-None.is
