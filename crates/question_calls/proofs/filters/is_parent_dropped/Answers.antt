-- `filters::is_parent_dropped` meets its contract: no parent, one that is known, or one that is asked. Assumes nothing.
use mathlib.Core.Path.{◌∙◌, ap}
use Rattle.questions.specs.Filters.{is_exclude_subtree}
use Rattle.question_calls.proofs.filters.Near.{dropped_top, dropped_up, dropped_known}
use Rattle.question_calls.proofs.filters.is_parent_dropped.Goals as goal

pub returns-then-slots-p : goal.returns-then-slots-p
returns-then-slots-p c = λ sound there. dropped_top _ _ sound _ there _ (c.parent_slot-p.ensures sound there) (rw c.slots.ensures at c.if-slots-p.true)

pub returns-then-p-known : goal.returns-then-p-known
returns-then-p-known c = λ sound there.
    dropped_known _ _ sound _ there _ (c.parent_slot-p.ensures sound there) _ c.requires.knows c.if-p-known.true
    (rw c.slots.ensures at c.if-slots-p.false)

pub returns : goal.returns
returns c = λ sound there.
    let l = rw c.slots.ensures at c.if-slots-p.false in
    dropped_up _ _ sound _ there _ (c.parent_slot-p.ensures sound there) _ l
    (c.is_exclude_subtree.ensures ∙ ap is_exclude_subtree (c.common_filter_or_hidden.ensures sound l))
