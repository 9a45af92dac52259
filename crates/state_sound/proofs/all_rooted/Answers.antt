-- `state_sound::all_rooted` meets its contract: each tree passed is rooted. Assumes nothing.
use Rattle.base.proofs.Scan.{scan}
use Rattle.state_rules.specs.Parts.{all_rooted}
use Rattle.state_sound.proofs.all_rooted.Goals as goal

pub loop-k-init : goal.loop-k-init
unfolding all_rooted
loop-k-init c = search scan

pub returns-then-not-is_rooted : goal.returns-then-not-is_rooted
unfolding all_rooted
returns-then-not-is_rooted c = search scan

pub loop-k-preserved : goal.loop-k-preserved
unfolding all_rooted
loop-k-preserved c = search scan

pub returns : goal.returns
unfolding all_rooted
returns c = search scan
