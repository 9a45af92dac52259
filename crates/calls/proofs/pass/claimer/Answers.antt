-- `pass::claimer` meets its contract: none of the nodes passed claims the tree. Assumes nothing.
use native.Mathlib.Omega.{arith}
use Rattle.calls.proofs.notes.Told.{few_listed}
use Rattle.calls.proofs.pass.Faults.{claimer_found, claimer_none}
use Rattle.calls.proofs.pass.claimer.Goals as goal

pub takes-requires : goal.takes-requires
takes-requires c = omega (arith, few_listed)

pub returns-then-takes : goal.returns-then-takes
returns-then-takes c = claimer_found c.requires _ _ c.loop-i.invariant c.loop-i-test.true c.takes.ensures c.if-takes.true

pub returns : goal.returns
returns c = claimer_none c.requires _ _ c.loop-i.invariant c.loop-i-test.false
