-- `trees::write_trees` meets its contract. The trees before k are in their places. Assumes nothing.
use mathlib.Core.List.{List}
use Rattle.calls.specs.declared.notes.Scope.{Scope}
use mathlib.Core.Path.{sym, ◌∙◌}
use Prim.Native.Nat.{◌≤◌, ℕ}
use lib.ListN.{length}
use Rattle.base.proofs.Regions.{fills_none}
use Rattle.state_array.proofs.Filled.{tree_more}
use Rattle.calls.specs.Trees.{trees_after}
use Rattle.calls.specs.Setting.{Given}
use Rattle.calls.proofs.Outcome.Room.{trees_few}
use Rattle.calls.proofs.trees.Entries.{trees_count}
use native.Mathlib.Omega.{arith}
use Rattle.calls.proofs.trees.write_trees.Goals as goal

-- there is room for them
few : {state bytes : List ℕ} {c : Scope} → Given state bytes c → length (trees_after state bytes c) ≤ 32
few g = trees_few _ _ g.kept g.numbered

pub loop-k-init : goal.loop-k-init
loop-k-init c = (c.tree_count-count.ensures ∙ sym (trees_count c.requires.given), search fills_none)

pub loop-k-preserved : goal.loop-k-preserved
loop-k-preserved c =
    let l = c.loop-k in
    let a = c.args in
    let ts = trees_after a.state.now a.batch.now a.scope in
    (l.invariant.0, tree_more ts l.k (omega (arith, few, l.invariant.0)) a.next.now l.invariant.1 c.tree_after-row.ensures c.put_tree.ensures)
