-- `state_lookup::ordered` meets its contract: each pair passed is in order. Assumes nothing.
use mathlib.Core.Path.{◌≡◌}
use Prim.Native.Nat.{◌+◌, ◌-◌}
use native.Mathlib.Omega.{arith}
use Rattle.base.proofs.Scan.{scan, scan_more, scan_fails, scan_end}
use Rattle.base.proofs.Tests.{call_true, call_false}
use Rattle.state_lookup.specs.Lookup.{ascend}
use Rattle.state_lookup.proofs.Order.{ordered_is}
use Rattle.state_lookup.proofs.ordered.Goals as goal

pub loop-i-init : goal.loop-i-init
loop-i-init c = search scan

pub returns-then-not-is_before : goal.returns-then-not-is_before
unfolding ascend
returns-then-not-is_before c =
    let here : c.loop-i.i - 1 + 1 ≡ c.loop-i.i = omega arith in
    rw (ordered_is _)
    (scan_fails c.loop-i.invariant (omega arith) (omega arith)
    (rw here (rw (c.id_at.ensures, c.id_at-in-loop-i.ensures) at (call_false c.is_before.ensures c.if-not-is_before.true))))

pub loop-i-preserved : goal.loop-i-preserved
loop-i-preserved c =
    let here : c.loop-i.i - 1 + 1 ≡ c.loop-i.i = omega arith in
    let next : c.loop-i.i + 1 - 1 ≡ c.loop-i.i - 1 + 1 = omega arith in
    rw next
    (scan_more c.loop-i.invariant (omega arith)
    (rw here (rw (c.id_at.ensures, c.id_at-in-loop-i.ensures) at (call_true c.is_before.ensures c.if-not-is_before.false))))

pub returns : goal.returns
unfolding ascend
returns c = rw (ordered_is _) (scan_end c.loop-i.invariant (omega arith) (omega arith))
