-- `shown::included_from` meets its contract: what is found of the ancestors that are left is what is found of all. The measure is
-- how many are left. Assumes nothing.
use mathlib.Core.Path.{refl, sym, ap, ◌∙◌}
use native.Mathlib.Omega.{arith}
use lib.ListN.{length}
use Rattle.questions.specs.Filters.{without_parent_checks}
use Rattle.question_calls.proofs.plain.Above.{up_next}
use Rattle.question_calls.proofs.filters.Near.{included_here, included_on, included_end}
use Rattle.question_calls.proofs.shown.included_from.Goals as goal

pub loop-p-init : goal.loop-p-init
loop-p-init c = (c.slots-n.ensures, refl)

pub returns-then-is_include : goal.returns-then-is_include
returns-then-is_include c =
    let l = c.loop-p in
    let sound = c.requires in
    let there = rw l.invariant.0 at c.loop-p-test.true in
    included_here (without_parent_checks _) _ sound l.p there _ (c.common_filter_without_parent_checks.ensures sound there) (sym c.is_include.ensures ∙ c.if-is_include.true)
    ∙ l.invariant.1

pub loop-p-smaller : goal.loop-p-smaller
loop-p-smaller c =
    let l = c.loop-p in
    let sound = c.requires in
    let there = rw l.invariant.0 at c.loop-p-test.true in
    omega (arith, ap length (up_next _ sound l.p _ there (c.parent_slot-p.ensures sound there)))

pub loop-p-preserved : goal.loop-p-preserved
loop-p-preserved c =
    let l = c.loop-p in
    let sound = c.requires in
    let there = rw l.invariant.0 at c.loop-p-test.true in (
      l.invariant.0,
      included_on (without_parent_checks _) _ sound l.p there _ (c.common_filter_without_parent_checks.ensures sound there) _ (c.parent_slot-p.ensures sound there)
          (sym c.is_include.ensures ∙ c.if-is_include.false)
          ∙ l.invariant.1,
    )

pub returns : goal.returns
returns c =
    let l = c.loop-p in
    included_end (without_parent_checks _) _ c.requires l.p _ (rw l.invariant.0 at c.loop-p-test.false) l.invariant.0 ∙ l.invariant.1
