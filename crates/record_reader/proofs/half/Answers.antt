-- `record_reader::half` meets its contract. Assumes nothing.
use mathlib.Core.Path.{◌∙◌}
use Rattle.record_reader.proofs.half.Goals as goal

pub returns : goal.returns
returns c = c.u16_at.ensures ∙ c.place.ensures _
