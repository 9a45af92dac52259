-- `state_rules::is_free` meets its contract: each node passed does not graft the tree. Assumes nothing.
use Rattle.base.proofs.Scan.{scan}
use Rattle.state_rules.specs.Parts.{none_grafts}
use Rattle.state_rules.proofs.is_free.Goals as goal

pub loop-i-init : goal.loop-i-init
unfolding none_grafts
loop-i-init c = search scan

pub returns-then-is_graft_of : goal.returns-then-is_graft_of
unfolding none_grafts
returns-then-is_graft_of c = search scan

pub loop-i-preserved : goal.loop-i-preserved
unfolding none_grafts
loop-i-preserved c = search scan

pub returns : goal.returns
unfolding none_grafts
returns c = search scan
