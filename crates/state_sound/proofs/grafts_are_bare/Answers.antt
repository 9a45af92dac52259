-- `state_sound::grafts_are_bare` meets its contract: each node passed is bare. Assumes nothing.
use Rattle.base.proofs.Scan.{scan}
use Rattle.state_rules.proofs.Grafts.{all_bare}
use Rattle.state_sound.proofs.grafts_are_bare.Goals as goal

pub loop-i-init : goal.loop-i-init
loop-i-init c = search scan

pub returns-then-not-is_bare : goal.returns-then-not-is_bare
returns-then-not-is_bare c = search (scan, all_bare)

pub loop-i-preserved : goal.loop-i-preserved
loop-i-preserved c = search scan

pub returns : goal.returns
returns c = search (scan, all_bare)
