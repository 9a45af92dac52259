-- `reasons_shape::links::same_link` meets its contract: a law for each way out. Assumes nothing.
use Rattle.base.specs.Tests.{◌and◌}
use Rattle.ids.proofs.Ids.{id_test}
use Rattle.reasons_shape.proofs.LinkRules.{same_none, same_some}
use borrow.Author.Rules.{rules}
use Rattle.reasons_shape.proofs.links.same_link.Goals as goal

pub returns-then-k-eq0 : goal.returns-then-k-eq0
returns-then-k-eq0 c = search (rules, same_none)

pub returns : goal.returns
unfolding ◌and◌
returns c = let a = c.args in cc (same_some a.k a.l c.if-k-eq0.false, id_test a.k.parent a.l.parent)
