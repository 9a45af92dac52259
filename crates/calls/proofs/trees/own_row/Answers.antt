-- `trees::own_row` meets its contract: by whether the scope names a root. Assumes nothing.
use Rattle.state_array.specs.Stored.{tree_row}
use Rattle.calls.specs.Trees.{own_entry}
use Rattle.calls.proofs.trees.own_row.Goals as goal

pub returns-in_default : goal.returns-in_default
unfolding own_entry
returns-in_default c = rw (c.in_default.is, ← c.tree_id-id.ensures) c.absent.ensures

pub returns : goal.returns
unfolding own_entry tree_row
returns c = rw (c.in-Some.is, ← c.tree_id-id.ensures, ← c.tree_focus-focus.ensures)
