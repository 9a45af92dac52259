-- `update_bodies::same_body` meets its contract: one test for each field. Assumes nothing.
use mathlib.Core.Path.{◌∙◌}
use Rattle.base.specs.Tests.{◌and◌}
use Rattle.ids.proofs.Ids.{tree_test, node_test}
use Rattle.update_bodies.proofs.Same.{body_compared}
use Rattle.update_bodies.proofs.same_body.Goals as goal

pub returns : goal.returns
unfolding ◌and◌
returns c =
    body_compared _ _ (c.eq.ensures ∙ tree_test _ _) (c.eq-2.ensures ∙ node_test _ _) c.same_words.ensures c.same_bounds.ensures c.same_transform.ensures
