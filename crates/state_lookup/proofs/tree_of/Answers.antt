-- `state_lookup::tree_of` meets its contract: a law for each way out. Assumes nothing.
use mathlib.Core.Path.{sym}
use native.Mathlib.Omega.{arith}
use Rattle.state_lookup.proofs.Trees.{tree_absent, tree_unborn, tree_there}
use Rattle.state_lookup.proofs.tree_of.Goals as goal

pub returns-then-trees-k : goal.returns-then-trees-k
returns-then-trees-k c = sym (tree_absent _ _ _ c.find_tree-k.ensures (omega arith))

pub returns-then-t-eq0 : goal.returns-then-t-eq0
returns-then-t-eq0 c = sym (tree_unborn _ _ _ c.find_tree-k.ensures (omega arith) (rw c.tree_at-t.ensures at c.if-t-eq0.true))

pub returns : goal.returns
returns c =
    let row = c.tree_at-t.ensures in
    let found = c.find_tree-k.ensures in
    rw row (sym (tree_there _ _ _ found (omega arith) (rw row at c.if-t-eq0.false)))
