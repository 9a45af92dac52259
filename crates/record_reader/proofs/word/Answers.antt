-- `record_reader::word` meets its contract. Assumes nothing.
use mathlib.Core.Path.{◌∙◌}
use Rattle.record_reader.proofs.word.Goals as goal

pub returns : goal.returns
returns c = c.u64_at.ensures ∙ c.place.ensures _
