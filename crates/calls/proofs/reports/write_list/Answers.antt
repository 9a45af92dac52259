-- `reports::write_list` meets its contract: what is picked of the slots passed is written. Assumes nothing.
use Prim.Native.Nat.{◌+◌, ◌≤◌}
use lib.ListN.{length, length-set}
use Rattle.calls.proofs.reports.Slice.{list_empty, list_hit, list_room, list_miss}
use native.Mathlib.Omega.{arith}
use Rattle.calls.proofs.reports.write_list.Goals as goal
use Rattle.calls.proofs.reports.write_list.Goals.{then-has_bit, else-has_bit}

pub loop-i-init : goal.loop-i-init
loop-i-init c = list_empty _ _ _ _ _ _

pub offset_bounds-changes-to : goal.offset_bounds-changes-to
offset_bounds-changes-to c =
    let fits : c.loop-i.to + 2 ≤ length c.args.changes.now = search list_room in
    omega (arith, c.loop-i.invariant.same_length)

pub bounds-changes-to : goal.bounds-changes-to
bounds-changes-to c =
    let fits : c.loop-i.to + 2 ≤ length c.args.changes.now = search list_room in
    omega (arith, c.loop-i.invariant.same_length)

pub overflow_add-changes : goal.overflow_add-changes
overflow_add-changes c =
    let fits : c.loop-i.to + 2 ≤ length c.args.changes.now = search list_room in
    omega (arith, c.loop-i.invariant.same_length)

pub offset_bounds-changes-to-then-has_bit : goal.offset_bounds-changes-to-then-has_bit
offset_bounds-changes-to-then-has_bit c =
    let fits : c.loop-i.to + 2 ≤ length c.args.changes.now = search list_room in
    omega (arith, c.loop-i.invariant.same_length)

pub bounds-changes-to-then-has_bit : goal.bounds-changes-to-then-has_bit
bounds-changes-to-then-has_bit c =
    let fits : c.loop-i.to + 2 ≤ length c.args.changes.now = search list_room in
    simp length-set (omega (arith, c.loop-i.invariant.same_length))

pub overflow_add-to : goal.overflow_add-to
overflow_add-to c =
    let fits : c.loop-i.to + 2 ≤ length c.args.changes.now = search list_room in
    omega (arith, c.loop-i.invariant.same_length)

pub loop-i-preserved : goal.loop-i-preserved
loop-i-preserved c =
    elim c.if-has_bit.branch [
      | then-has_bit w ↦ rw (w.changes-is, w.to-is) (search list_hit)
      | else-has_bit w ↦ rw (w.changes-is, w.to-is) (search list_miss)
    ]
