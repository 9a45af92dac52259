-- `record_reader::node` meets its contract: the calls' equations join the fields. Assumes nothing.
use Rattle.record_reader.proofs.node.Goals as goal

pub returns : goal.returns
returns c =
    rw (
      c.transform.ensures,
      c.bounds.ensures,
      c.flags.ensures,
      c.role.ensures,
      c.child_count.ensures,
      c.first_child.ensures,
      c.graft.ensures,
      c.active_descendant.ensures,
      c.node_id.ensures,
    )
