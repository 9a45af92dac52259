-- `why_outcome::grafts::holder_from` meets its contract: no node passed grafts the tree. Assumes nothing.
use borrow.Author.Rules.{rules}
use Rattle.base.specs.Tests.{◌and◌}
use Rattle.ids.proofs.Ids.{tree_test}
use Rattle.calls.proofs.why_outcome.Regrafts.{seeking_hits, seeking_goes, seeking_ends}
use Rattle.calls.proofs.why_outcome.grafts.holder_from.Goals as goal

pub returns-then-is_graft-eq : goal.returns-then-is_graft-eq
unfolding ◌and◌
returns-then-is_graft-eq c = search (rules, tree_test, seeking_hits)

pub loop-j-preserved : goal.loop-j-preserved
unfolding ◌and◌
loop-j-preserved c = search (rules, tree_test, seeking_goes)

pub returns : goal.returns
unfolding ◌and◌
returns c = search (rules, seeking_ends)
