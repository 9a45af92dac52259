-- `record_reader::tree_id` meets its contract: the calls' equations join the fields. Assumes nothing.
use Rattle.record.specs.Parse.{batch_of}
use Rattle.record_reader.proofs.tree_id.Goals as goal

pub returns : goal.returns
unfolding batch_of
returns c = rw (c.u64_at-2.ensures, c.u64_at.ensures)
