-- `state_array::tree_at` meets its contract: five reads. Assumes nothing.
use Rattle.state_array.specs.View.{tree_in}
use Rattle.state_array.proofs.tree_at.Goals as goal

pub returns : goal.returns
unfolding tree_in
returns c =
    rw (
      c.entry_at-5.ensures,
      c.entry_at-4.ensures,
      c.entry_at-3.ensures,
      c.entry_at-2.ensures,
      c.entry_at.ensures,
    )
