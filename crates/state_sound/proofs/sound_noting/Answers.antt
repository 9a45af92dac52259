-- `state_sound::sound_noting` meets its contract: the three parts are those of the definition where there are not too many nodes and trees. Assumes nothing.
use native.Mathlib.Omega.{arith}
use borrow.Author.Rules.{rules}
use Rattle.base.specs.Tests.{◌and◌}
use Rattle.state_sound.proofs.Decide.{sound_crowded, sound_overgrown, sound_small}
use Rattle.state_sound.proofs.sound_noting.Goals as goal

pub returns-then-slots-gt-MOST_NODES : goal.returns-then-slots-gt-MOST_NODES
returns-then-slots-gt-MOST_NODES c = search (rules, sound_crowded)

pub returns-then-trees-gt-TREES : goal.returns-then-trees-gt-TREES
returns-then-trees-gt-TREES c = search (rules, sound_overgrown)

pub returns : goal.returns
unfolding ◌and◌
returns c = cc (sound_small c.args.state.now (omega arith) (omega arith))
