-- `rows::scope_of` meets its contract, part by part. Assumes nothing.
use mathlib.Core.Path.{ap, ◌∙◌}
use Rattle.std.specs.Prelude.{option_map}
use Rattle.ids.specs.Ids.{ROOT, same_tree}
use Rattle.ids.specs.declared.TreeIndex.{TreeIndex}
use Rattle.ids.specs.declared.NodeId.{NodeId}
use Rattle.record.specs.Parse.{batch_of}
use Rattle.record_reader.specs.declared.BatchHeader.{BatchHeader}
use Rattle.update.specs.Words.{here, with_tree_data}
use Rattle.calls.specs.Setting.{root_in}
use Rattle.calls.proofs.rows.Outcomes.{number_is}
use Rattle.calls.proofs.rows.scope_of.Goals as goal

pub returns : goal.returns
unfolding with_tree_data root_in here
returns c = let a = c.args in
    let header = c.read_header-header.ensures in
    let id = ap (λ (h : BatchHeader). h.tree) header in
    let root = c.root_after-root in
    let tree = number_is a.state.now (batch_of a.batch.now) _ (rw id at c.find_tree-number.ensures) in
    λ formed.
    record {
      tree = tree;
      root_tree = c.is_root_id.ensures ∙ ap (λ t. same_tree t ROOT) id;
      listed = ap (λ (h : BatchHeader). h.nodes) header;
      named = c.entries_of.ensures formed;
      tree_data = ap (λ (h : BatchHeader). h.has_tree_data) header;
      root = ap (λ (t : TreeIndex). option_map (λ (x : NodeId). record { tree = t; node = x }) root.result) tree ∙ root.ensures;
    }
