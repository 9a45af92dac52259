-- `record_reader::flags` meets its contract: the record's number is the listed node's. Assumes nothing.
use mathlib.Core.Path.{refl, ◌∙◌}
use Rattle.record_reader.proofs.Reader.{field_is}
use Rattle.record_reader.proofs.flags.Goals as goal

pub returns : goal.returns
returns c = c.byte.ensures ∙ field_is _ _ 1 41 (λ n. n) (λ l. l.body.flags) refl refl
