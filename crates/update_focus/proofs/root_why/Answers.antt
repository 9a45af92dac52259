-- `update_focus::root_why` meets its contract. Assumes nothing.
use Rattle.reasons_why.specs.Why.{why_of}
use Rattle.update_focus.proofs.root_why.Goals as goal

pub returns : goal.returns
returns c = unfold why_of in (rw c.root-node.ensures)
