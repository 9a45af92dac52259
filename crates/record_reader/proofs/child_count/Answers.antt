-- `record_reader::child_count` meets its contract: the record's count is the length of the listed node's children. Assumes nothing.
use mathlib.Core.Path.{◌∙◌}
use Rattle.record_reader.proofs.Reader.{children_count}
use Rattle.record_reader.proofs.child_count.Goals as goal

pub returns : goal.returns
returns c = c.half.ensures ∙ children_count _ _
