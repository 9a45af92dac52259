-- `record_reader::byte` meets its contract. Assumes nothing.
use mathlib.Core.Path.{◌∙◌}
use Rattle.record_reader.proofs.byte.Goals as goal

pub returns : goal.returns
returns c = c.u8_at.ensures ∙ c.place.ensures _
