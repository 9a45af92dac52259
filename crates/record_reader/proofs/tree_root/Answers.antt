-- `record_reader::tree_root` meets its contract: the test says whether there is a root. Assumes nothing.
use mathlib.Core.Path.{sym, ap, ◌∙◌}
use Rattle.ids.specs.declared.NodeId.{NodeId}
use Rattle.record_reader.proofs.Reader.{root_given, root_missing}
use Rattle.record_reader.proofs.tree_root.Goals as goal

pub returns-then-has_tree_data : goal.returns-then-has_tree_data
returns-then-has_tree_data c = ap {B = NodeId} (λ n. record { 0 = n }) c.u64_at.ensures ∙ sym (root_given _ (sym c.has_tree_data.ensures ∙ c.if-has_tree_data.true))

pub returns : goal.returns
returns c = sym (root_missing _ (sym c.has_tree_data.ensures ∙ c.if-has_tree_data.false))
