-- `shown::shown_from` meets its contract: what is listed from here is what is listed from where it began. The measure is how many
-- nodes can still be met. Assumes nothing.
use mathlib.Core.Path.{refl, sym, ◌∙◌}
use native.Mathlib.Omega.{arith}
use Rattle.questions.specs.Filters.{filter_of}
use Rattle.question_calls.proofs.plain.Above.{include_is}
use Rattle.question_calls.proofs.plain.Listed.{listed_end, listed_here, listed_on, listed_less}
use Rattle.question_calls.proofs.shown.Shown.{met_unlisted}
use Rattle.question_calls.proofs.shown.shown_from.Goals as goal

pub loop-filter-init : goal.loop-filter-init
loop-filter-init c = (c.slots-n.ensures, refl)

pub returns-then-n-i : goal.returns-then-n-i
returns-then-n-i c =
    let l = c.loop-filter in
    let past = rw l.invariant.0 at c.if-n-i.true in record { lists = sym l.invariant.1 ∙ listed_end _ _ _ l.here past; included = λ there. absurd (omega arith) }

pub returns-then-is_include : goal.returns-then-is_include
returns-then-is_include c =
    let l = c.loop-filter in
    let sound = c.requires.sound in
    let there = rw l.invariant.0 at c.if-n-i.false in
    let says = c.filter_knowing-result.ensures sound there in
    let included = sym c.is_include.ensures ∙ c.if-is_include.true in record { lists = sym l.invariant.1 ∙ listed_here _ _ _ l.here sound there _ says included; included = λ _. sym says ∙ include_is _ included }

pub loop-filter-smaller : goal.loop-filter-smaller
loop-filter-smaller c =
    let l = c.loop-filter in
    let sound = c.requires.sound in
    let there = rw l.invariant.0 at c.if-n-i.false in
    let on = c.go_on-here.ensures sound there ∙ met_unlisted _ _ _ _ _ _ c.is_exclude_node-consider_children.ensures in
    listed_less (filter_of _ _) _ _ l.here sound there _ (c.filter_knowing-result.ensures sound there) _ on
    (sym c.is_include.ensures ∙ c.if-is_include.false)

pub loop-filter-preserved : goal.loop-filter-preserved
loop-filter-preserved c =
    let l = c.loop-filter in
    let sound = c.requires.sound in
    let there = rw l.invariant.0 at c.if-n-i.false in
    let on = c.go_on-here.ensures sound there ∙ met_unlisted _ _ _ _ _ _ c.is_exclude_node-consider_children.ensures in (
      l.invariant.0,
      listed_on _ _ _ l.here sound there _ (c.filter_knowing-result.ensures sound there) _ on
          (sym c.is_include.ensures ∙ c.if-is_include.false)
          ∙ l.invariant.1,
    )
