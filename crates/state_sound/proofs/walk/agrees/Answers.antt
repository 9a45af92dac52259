-- `state_sound::walk::agrees` meets its contract: one test for each part. Assumes nothing.
use Rattle.base.specs.Tests.{◌and◌}
use Rattle.ids.proofs.Ids.{id_test}
use Rattle.state_sound.proofs.Walks.{agrees_is}
use Rattle.state_sound.proofs.walk.agrees.Goals as goal

pub returns : goal.returns
unfolding ◌and◌
returns c = let a = c.args in cc (agrees_is a.l a.p a.j, id_test a.l.parent a.p)
