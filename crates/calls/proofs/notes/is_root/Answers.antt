-- `notes::is_root` meets its contract: the code is the definition's test. Assumes nothing.
use Rattle.base.specs.Tests.{◌and◌}
use Rattle.ids.specs.Ids.{same_index, same_node, same_id}
use Rattle.calls.specs.Setting.{root_in}
use Rattle.calls.proofs.notes.is_root.Goals as goal

pub returns-in_default : goal.returns-in_default
unfolding root_in
returns-in_default c = rw c.in_default.is

pub returns : goal.returns
unfolding root_in same_index same_node same_id ◌and◌
returns c = rw (c.in-Some.is, c.eq.ensures, c.eq-2.ensures)
