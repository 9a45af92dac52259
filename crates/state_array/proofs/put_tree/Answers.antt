-- `state_array::put_tree` meets its contract: five words. Assumes nothing.
use Rattle.state_array.specs.Layout.{TREES}
use Rattle.state_array.specs.Put.{puts}
use borrow.Author.Tests.{lt-ltb, le-ltb}
use borrow.Author.Rules.{rules}
use Rattle.state_array.proofs.put_tree.Goals as goal

pub returns-then-k-lt-TREES : goal.returns-then-k-lt-TREES
unfolding puts
returns-then-k-lt-TREES c =
    rw (lt-ltb _ TREES c.if-k-lt-TREES.true, c.put_entry-then-k-lt-TREES-4.ensures, c.put_entry-then-k-lt-TREES-3.ensures, c.put_entry-then-k-lt-TREES-2.ensures, c.put_entry-then-k-lt-TREES.ensures, c.put_entry.ensures)

pub returns-else-k-lt-TREES : goal.returns-else-k-lt-TREES
returns-else-k-lt-TREES c = search (rules, le-ltb)
