-- `record_reader::tree_focus` meets its contract: the number that is read. Assumes nothing.
use Rattle.record.specs.Parse.{batch_of}
use Rattle.record_reader.proofs.tree_focus.Goals as goal

pub returns : goal.returns
unfolding batch_of
returns c = rw c.u64_at.ensures
