-- `pass::firsts_of` meets its contract: those of the nodes passed stand there. Assumes nothing.
use Rattle.calls.proofs.pass.Rows.{firsts_none}
use Rattle.calls.proofs.pass.firsts_of.Goals as goal

pub loop-i-init : goal.loop-i-init
loop-i-init c = firsts_none c.args.due.now
