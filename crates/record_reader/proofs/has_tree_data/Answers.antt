-- `record_reader::has_tree_data` meets its contract: the bit says whether there is a root. Assumes nothing.
use native.Mathlib.Nat.{div-one}
use Rattle.record_reader.proofs.Reader.{root_there}
use Rattle.record_reader.proofs.has_tree_data.Goals as goal

pub returns : goal.returns
returns c = rw (← root_there, div-one, c.u16_at.ensures)
