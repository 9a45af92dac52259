-- `gone::replaced` meets its contract: the code is the definition's test. Assumes nothing.
use Rattle.base.specs.Tests.{◌and◌}
use Rattle.calls.proofs.gone.Fates.{replaced_is}
use Rattle.calls.proofs.gone.replaced.Goals as goal

pub returns : goal.returns
returns c = unfold ◌and◌ in (rw c.eq.ensures (replaced_is _ _ c.is_root.ensures))
