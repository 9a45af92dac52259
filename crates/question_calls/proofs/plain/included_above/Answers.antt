-- `plain::included_above` meets its contract: what is found of the ancestors that are left is what is found of all. The measure is how
-- many are left. Assumes nothing.
use mathlib.Core.Path.{sym, ap, ◌∙◌}
use native.Mathlib.Omega.{arith}
use lib.ListN.{length}
use Rattle.question_calls.proofs.plain.Above.{up_next, up_few, climbed_start, climbed_end, climbed_found, climbed_on}
use Rattle.question_calls.proofs.plain.included_above.Goals as goal

pub loop-p-init : goal.loop-p-init
loop-p-init c =
    let sound = c.requires in (
      c.slots-n.ensures,
      omega (arith, up_few _ sound c.parent_slot-p.result),
      λ there shown. climbed_start _ _ sound _ _ there shown (c.parent_slot-p.ensures sound there),
    )

pub returns-then-is_include : goal.returns-then-is_include
returns-then-is_include c = λ sound there shown.
    let l = c.loop-p in
    let m = rw l.invariant.0 at c.loop-p-test.true in
    climbed_found _ _ sound _ l.p 0 l.level (l.invariant.2 there shown) m _ (c.own_filter_at.ensures sound m)
    (sym c.is_include.ensures ∙ c.if-is_include.true)

pub overflow_add-level : goal.overflow_add-level
overflow_add-level c = record { fits = omega arith }

pub loop-p-smaller : goal.loop-p-smaller
loop-p-smaller c =
    let sound = c.requires in
    let m = rw c.loop-p.invariant.0 at c.loop-p-test.true in
    omega (arith, ap length (up_next _ sound c.loop-p.p _ m (c.parent_slot-p-in-loop-p.ensures sound m)))

pub loop-p-preserved : goal.loop-p-preserved
loop-p-preserved c =
    let sound = c.requires in
    let m = rw c.loop-p.invariant.0 at c.loop-p-test.true in
    let up = c.parent_slot-p-in-loop-p.ensures sound m in (
      c.loop-p.invariant.0,
      omega (arith, c.loop-p.invariant.1, ap length (up_next _ sound c.loop-p.p _ m up)),
      λ there shown.
          climbed_on _ _ sound _ c.loop-p.p _ c.loop-p.level (c.loop-p.invariant.2 there shown) m _ (c.own_filter_at.ensures sound m) up
          (sym c.is_include.ensures ∙ c.if-is_include.false),
    )

pub returns : goal.returns
returns c = λ sound there shown.
    let l = c.loop-p in
    climbed_end _ _ sound _ l.p l.level _ (l.invariant.2 there shown) (rw l.invariant.0 at c.loop-p-test.false) l.invariant.0
