-- `record_reader::header` meets its contract: the calls' equations join the fields. Assumes nothing.
use Rattle.record_reader.proofs.header.Goals as goal

pub returns : goal.returns
returns c =
    rw (
      c.tree_focus.ensures,
      c.tree_root.ensures,
      c.tree_id.ensures,
      c.has_tree_data.ensures,
      c.node_count.ensures,
    )
