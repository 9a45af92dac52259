-- `record_reader::active_descendant` meets its contract: the record's number is the listed node's. Assumes nothing.
use mathlib.Core.Path.{refl, ap, ◌∙◌}
use Rattle.ids.specs.declared.NodeId.{NodeId}
use Rattle.record_reader.proofs.Reader.{field_is}
use Rattle.record_reader.proofs.active_descendant.Goals as goal

pub returns : goal.returns
returns c = ap {B = NodeId} (λ n. record { 0 = n }) c.word.ensures ∙ field_is _ _ 8 8 (λ n. record { 0 = n }) (λ l. l.body.active_descendant) refl refl
