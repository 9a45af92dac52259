-- `notes::holder_of` meets its contract: no slot passed grafts the tree. Assumes nothing.
use borrow.Author.Count.{below_more}
use native.Mathlib.Omega.{arith}
use borrow.Author.Rules.{rules}
use Rattle.base.specs.Tests.{◌and◌}
use Rattle.base.proofs.Search.{first_here}
use Rattle.ids.proofs.Ids.{tree_test}
use Rattle.calls.proofs.notes.Grafts.{graft_test}
use Rattle.calls.proofs.notes.holder_of.Goals as goal

pub returns-then-is_graft-eq : goal.returns-then-is_graft-eq
unfolding ◌and◌
returns-then-is_graft-eq c = first_here _ _ _ c.loop-i.invariant (omega (arith, c.slots-n.ensures)) (search (rules, tree_test, graft_test))

pub loop-i-preserved : goal.loop-i-preserved
unfolding ◌and◌
loop-i-preserved c = below_more _ _ c.loop-i.invariant (search (rules, tree_test, graft_test))
