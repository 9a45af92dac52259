-- `gone::goes_if` meets its contract. Assumes nothing.
use Rattle.update.specs.Gone.{goes_if}
use Rattle.calls.specs.Fates.{fate_code}
use Rattle.calls.proofs.gone.goes_if.Goals as goal

pub returns-then-goes : goal.returns-then-goes
returns-then-goes c = unfold fate_code goes_if in (rw c.if-goes.true)

pub returns-else-goes : goal.returns-else-goes
returns-else-goes c = unfold fate_code goes_if in (rw c.if-goes.false)
