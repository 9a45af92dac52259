-- `plain::shown_from` meets its contract: what is listed from here is what is listed from where it began. The measure is how many nodes
-- can still be met. Assumes nothing.
use mathlib.Core.Path.{refl, sym, ◌∙◌}
use Rattle.question_calls.specs.Plain.{own_filter}
use Rattle.question_calls.proofs.plain.Listed.{listed_end, listed_here, listed_on, listed_less}
use Rattle.question_calls.proofs.plain.shown_from.Goals as goal

pub loop-side-init : goal.loop-side-init
loop-side-init c = (c.slots-n.ensures, refl)

pub returns-then-n-i : goal.returns-then-n-i
returns-then-n-i c =
    let l = c.loop-side in
    sym l.invariant.1 ∙ listed_end _ _ _ l.here (rw l.invariant.0 at c.if-n-i.true)

pub returns-then-is_include : goal.returns-then-is_include
returns-then-is_include c =
    let l = c.loop-side in
    let sound = c.requires in
    let there = rw l.invariant.0 at c.if-n-i.false in
    sym l.invariant.1
    ∙ listed_here _ _ _ l.here sound there _ (c.own_filter_at-result.ensures sound there) (sym c.is_include.ensures ∙ c.if-is_include.true)

pub loop-side-smaller : goal.loop-side-smaller
loop-side-smaller c =
    let l = c.loop-side in
    let sound = c.requires in
    let there = rw l.invariant.0 at c.if-n-i.false in
    listed_less (own_filter _) _ _ l.here sound there _ (c.own_filter_at-result.ensures sound there) _ (c.unlisted-here.ensures sound there)
    (sym c.is_include.ensures ∙ c.if-is_include.false)

pub loop-side-preserved : goal.loop-side-preserved
loop-side-preserved c =
    let l = c.loop-side in
    let sound = c.requires in
    let there = rw l.invariant.0 at c.if-n-i.false in (
      l.invariant.0,
      listed_on _ _ _ l.here sound there _ (c.own_filter_at-result.ensures sound there) _ (c.unlisted-here.ensures sound there)
          (sym c.is_include.ensures ∙ c.if-is_include.false)
          ∙ l.invariant.1,
    )
