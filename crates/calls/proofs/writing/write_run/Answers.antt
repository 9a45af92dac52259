-- `writing::write_run` meets its contract. The children before j are in their places. Assumes nothing.
use native.Mathlib.Omega.{arith}
use Rattle.base.proofs.Loops.{filling_begins}
use Rattle.calls.proofs.writing.Kids.{run_goes}
use Rattle.calls.proofs.writing.write_run.Goals as goal

pub loop-j-init : goal.loop-j-init
loop-j-init c = filling_begins (omega arith)

pub loop-j-preserved : goal.loop-j-preserved
loop-j-preserved c = search run_goes
