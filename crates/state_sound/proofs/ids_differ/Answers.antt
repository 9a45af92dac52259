-- `state_sound::ids_differ` meets its contract: the id of each tree passed stands nowhere before it. Assumes nothing.
use Rattle.base.proofs.Scan.{scan}
use Rattle.state_rules.proofs.Trees.{one_id_by, old_found, new_found}
use Rattle.state_sound.proofs.ids_differ.Goals as goal

pub loop-k-init : goal.loop-k-init
loop-k-init c = search scan

pub returns-then-find_tree-k : goal.returns-then-find_tree-k
returns-then-find_tree-k c = search (scan, one_id_by, old_found)

pub loop-k-preserved : goal.loop-k-preserved
loop-k-preserved c = search (scan, new_found)

pub returns : goal.returns
returns c = search (scan, one_id_by)
