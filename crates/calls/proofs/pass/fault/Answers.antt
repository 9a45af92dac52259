-- `pass::fault` meets its contract: what is left to meet is the answer. Assumes nothing.
use native.Mathlib.Omega.{arith}
use Rattle.calls.proofs.pass.Going.{begins, ends, stops_twice, stops, goes, goes_unplaced, step_listed, going_within}
use Rattle.calls.proofs.pass.fault.Goals as goal

pub loop-i-init : goal.loop-i-init
loop-i-init c = search begins

pub returns-then-next : goal.returns-then-next
returns-then-next c = search stops_twice

pub placed-requires : goal.placed-requires
placed-requires c = record { told = c.requires.told; i_lt_listed = step_listed c.requires.told c.next_step-next.ensures c.in-Some.is }

pub returns-in-Some-placed : goal.returns-in-Some-placed
returns-in-Some-placed c = search stops

pub loop-i-smaller-in_default-placed : goal.loop-i-smaller-in_default-placed
loop-i-smaller-in_default-placed c =
    let far = going_within c.requires.told c.loop-i.invariant c.loop-i-test.true in
    omega (arith, c.next_step-next.ensures.one_more)

pub loop-i-preserved-in_default-placed : goal.loop-i-preserved-in_default-placed
loop-i-preserved-in_default-placed c = search goes

pub loop-i-smaller : goal.loop-i-smaller
loop-i-smaller c =
    let far = going_within c.requires.told c.loop-i.invariant c.loop-i-test.true in
    omega (arith, c.next_step-next.ensures.one_more)

pub loop-i-preserved : goal.loop-i-preserved
loop-i-preserved c = search goes_unplaced

pub returns : goal.returns
returns c = search ends
