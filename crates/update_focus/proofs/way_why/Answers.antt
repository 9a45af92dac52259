-- `update_focus::way_why` meets its contract. Assumes nothing.
use Rattle.update_focus.proofs.way_why.Goals as goal

pub returns : goal.returns
returns c = rw (c.length-place.ensures, c.last-node.ensures)
