-- `gone::write_goes` meets its contract. Assumes nothing.
use Rattle.calls.proofs.gone.Climb.{memo_next, memo_done}
use Rattle.calls.proofs.gone.write_goes.Goals as goal

pub loop-i-preserved : goal.loop-i-preserved
loop-i-preserved c = search memo_next

pub returns : goal.returns
returns c = search memo_done
