-- `shown::climb` meets its contract: the ancestors that are left are those after the ones passed. The measure is how many are left.
-- Assumes nothing.
use mathlib.Core.Path.{refl, ap}
use native.Mathlib.Omega.{arith}
use lib.ListN.{length}
use Rattle.base.proofs.Tests.{call_false, call_true}
use Rattle.questions.specs.Filters.{filter_of}
use Rattle.question_calls.proofs.plain.Above.{up_next, up_few}
use Rattle.question_calls.proofs.shown.Above.{climbing_start, climbing_stops, climbing_on, climbing_end}
use Rattle.question_calls.proofs.shown.climb.Goals as goal

pub loop-p-init : goal.loop-p-init
loop-p-init c = (
  c.slots-n.ensures,
  omega (arith, up_few _ c.requires c.parent_slot-p.result),
  λ sound there. climbing_start (filter_of _ _) _ sound _ _ there (c.parent_slot-p.ensures sound there),
)

pub returns-then-not-is_passed : goal.returns-then-not-is_passed
returns-then-not-is_passed c = λ sound there.
    let l = c.loop-p in
    let m = rw l.invariant.0 at c.loop-p-test.true in
    climbing_stops (filter_of _ _) _ sound l.p m _ refl _ l.level (l.invariant.2 sound there)
    (call_false (c.is_passed.ensures sound m) c.if-not-is_passed.true)

pub loop-p-smaller : goal.loop-p-smaller
loop-p-smaller c =
    let l = c.loop-p in
    let sound = c.requires in
    let m = rw l.invariant.0 at c.loop-p-test.true in
    omega (arith, ap length (up_next _ sound l.p _ m (c.parent_slot-p-in-loop-p.ensures sound m)))

pub loop-p-preserved : goal.loop-p-preserved
loop-p-preserved c =
    let l = c.loop-p in
    let sound = c.requires in
    let m = rw l.invariant.0 at c.loop-p-test.true in
    let up = c.parent_slot-p-in-loop-p.ensures sound m in (
      l.invariant.0,
      omega (arith, l.invariant.1, ap length (up_next _ sound l.p _ m up)),
      λ again there.
          climbing_on (filter_of _ _) _ again l.p m _ refl _ l.level (l.invariant.2 again there) _ up
          (call_true (c.is_passed.ensures again m) c.if-not-is_passed.false),
    )

pub returns : goal.returns
returns c = λ sound there.
    let l = c.loop-p in
    climbing_end (filter_of _ _) _ sound _ l.p l.level _ (l.invariant.2 sound there) (rw l.invariant.0 at c.loop-p-test.false) l.invariant.0
