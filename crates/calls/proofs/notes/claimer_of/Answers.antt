-- `notes::claimer_of` meets its contract: no listed node passed claims the tree. Assumes nothing.
use borrow.Author.Count.{below_more}
use borrow.Author.Rules.{rules}
use Rattle.base.specs.Tests.{◌and◌}
use Rattle.base.proofs.Search.{first_here}
use Rattle.ids.proofs.Ids.{tree_test}
use Rattle.calls.proofs.notes.Grafts.{claim_read}
use Rattle.calls.proofs.notes.claimer_of.Goals as goal

pub returns-then-notes-i : goal.returns-then-notes-i
unfolding ◌and◌
returns-then-notes-i c = search (rules, tree_test, first_here, claim_read)

pub loop-i-preserved : goal.loop-i-preserved
unfolding ◌and◌
loop-i-preserved c = below_more _ _ c.loop-i.invariant (search (rules, tree_test, claim_read))
