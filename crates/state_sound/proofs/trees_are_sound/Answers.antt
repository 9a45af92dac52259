-- `state_sound::trees_are_sound` meets its contract: one part for each rule. Assumes nothing.
use Rattle.base.specs.Tests.{◌and◌}
use Rattle.state_sound.specs.Parts.{sound_grafts}
use Rattle.state_rules.proofs.Trees.{rooted_is}
use Rattle.state_sound.proofs.trees_are_sound.Goals as goal

pub returns : goal.returns
unfolding sound_grafts ◌and◌
returns c = cc (rooted_is c.args.state.now)
