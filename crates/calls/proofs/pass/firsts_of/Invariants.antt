-- `pass::firsts_of` meets its contract: those of the nodes passed stand there. Assumes nothing.
use Rattle.calls.specs.Steps.{Firsts}
use Rattle.calls.proofs.pass.firsts_of.Given as goal

abbrev pub invariant-loop-i : goal.invariant-loop-i
invariant-loop-i l = Firsts l.i l.due l.out
