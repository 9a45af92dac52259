-- `filters::common_filter` meets its contract: by the first test that holds, or by what the parent is told. Assumes nothing.
use mathlib.Core.Path.{sym, ◌∙◌}
use native.Mathlib.Omega.{arith}
use Rattle.question_calls.proofs.filters.Common.{common_focused, common_transparent, common_root, common_dropped, common_clipped, common_included, parent_unhidden, parent_nearer}
use Rattle.question_calls.proofs.filters.+common_filter.Goals as goal

pub returns-then-focused-i : goal.returns-then-focused-i
returns-then-focused-i t c = let u = c.requires in common_focused _ u.is_sound _ _ u.within (sym c.if-focused-i.true)

pub returns-then-is_transparent : goal.returns-then-is_transparent
returns-then-is_transparent t c =
    let u = c.requires in
    common_transparent _ u.is_sound _ _ u.within (λ e. c.if-focused-i.false (sym e)) u.shown
    (sym (c.is_transparent.ensures u.is_sound u.within) ∙ c.if-is_transparent.true)

pub returns-then-slots-p : goal.returns-then-slots-p
returns-then-slots-p t c =
    let u = c.requires in
    common_root _ u.is_sound _ _ u.within (λ e. c.if-focused-i.false (sym e)) u.shown
    (sym (c.is_transparent.ensures u.is_sound u.within) ∙ c.if-is_transparent.false) _ (c.parent_slot-p.ensures u.is_sound u.within)
    (rw c.slots.ensures at c.if-slots-p.true)

pub common_filter-requires : goal.common_filter-requires
common_filter-requires t c =
    let u = c.requires in
    let up = c.parent_slot-p.ensures u.is_sound u.within in
    let l = rw c.slots.ensures at c.if-slots-p.false in
    (omega (arith, parent_nearer _ _ u _ up l), parent_unhidden _ _ u _ up l)

pub returns-then-is_exclude_subtree : goal.returns-then-is_exclude_subtree
returns-then-is_exclude_subtree t c =
    let u = c.requires in
    common_dropped _ u.is_sound _ _ u.within (λ e. c.if-focused-i.false (sym e)) u.shown
    (sym (c.is_transparent.ensures u.is_sound u.within) ∙ c.if-is_transparent.false) _ (c.parent_slot-p.ensures u.is_sound u.within)
    (rw c.slots.ensures at c.if-slots-p.false) _ c.common_filter.ensures
    (sym c.is_exclude_subtree.ensures ∙ c.if-is_exclude_subtree.true)

pub returns-then-is_clipped : goal.returns-then-is_clipped
returns-then-is_clipped t c =
    let u = c.requires in
    let plain = sym (c.is_transparent.ensures u.is_sound u.within) ∙ c.if-is_transparent.false in
    common_clipped _ u.is_sound _ _ u.within (λ e. c.if-focused-i.false (sym e)) u.shown plain _ (c.parent_slot-p.ensures u.is_sound u.within)
    (rw c.slots.ensures at c.if-slots-p.false) _ c.common_filter.ensures
    (sym c.is_exclude_subtree.ensures ∙ c.if-is_exclude_subtree.false)
    (sym (c.is_clipped.ensures u.is_sound u.within plain) ∙ c.if-is_clipped.true)

pub returns : goal.returns
returns t c =
    let u = c.requires in
    let plain = sym (c.is_transparent.ensures u.is_sound u.within) ∙ c.if-is_transparent.false in
    common_included _ u.is_sound _ _ u.within (λ e. c.if-focused-i.false (sym e)) u.shown plain _ (c.parent_slot-p.ensures u.is_sound u.within)
    (rw c.slots.ensures at c.if-slots-p.false) _ c.common_filter.ensures
    (sym c.is_exclude_subtree.ensures ∙ c.if-is_exclude_subtree.false)
    (sym (c.is_clipped.ensures u.is_sound u.within plain) ∙ c.if-is_clipped.false)
