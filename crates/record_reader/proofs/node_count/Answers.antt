-- `record_reader::node_count` meets its contract: the count is the length of the list of nodes. Assumes nothing.
use mathlib.Core.Path.{◌∙◌}
use Rattle.record_reader.proofs.Reader.{node_count_is}
use Rattle.record_reader.proofs.node_count.Goals as goal

pub returns : goal.returns
returns c = c.u16_at.ensures ∙ node_count_is _
