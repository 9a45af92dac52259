-- `filters::common_filter_told` meets its contract: by the first test that holds. Assumes nothing.
use mathlib.Core.Path.{sym, ◌∙◌}
use Rattle.question_calls.proofs.filters.Common.{common_focused, common_hidden, common_transparent}
use Rattle.question_calls.proofs.filters.Near.{told_unhidden, told_dropped, told_clipped, told_included}
use Rattle.question_calls.proofs.filters.common_filter_told.Goals as goal

pub returns-then-focused-i : goal.returns-then-focused-i
returns-then-focused-i c = let t = c.requires in common_focused _ t.is_sound _ _ t.within (sym c.if-focused-i.true)

pub returns-then-hidden : goal.returns-then-hidden
returns-then-hidden c = let t = c.requires in common_hidden _ t.is_sound _ _ t.within (λ e. c.if-focused-i.false (sym e)) (sym t.hidden_is ∙ c.if-hidden.true)

pub returns-then-is_transparent : goal.returns-then-is_transparent
returns-then-is_transparent c =
    let t = c.requires in
    common_transparent _ t.is_sound _ _ t.within (λ e. c.if-focused-i.false (sym e)) (sym t.hidden_is ∙ c.if-hidden.false)
    (sym (c.is_transparent.ensures t.is_sound t.within) ∙ c.if-is_transparent.true)

pub returns-then-dropped : goal.returns-then-dropped
returns-then-dropped c =
    let t = c.requires in
    told_dropped _ _ _ _ _ t c.if-hidden.false (λ e. c.if-focused-i.false (sym e)) (sym (c.is_transparent.ensures t.is_sound t.within) ∙ c.if-is_transparent.false) c.if-dropped.true

pub is_clipped-requires : goal.is_clipped-requires
is_clipped-requires c = told_unhidden _ _ _ _ _ c.requires c.if-hidden.false

pub returns-then-is_clipped : goal.returns-then-is_clipped
returns-then-is_clipped c =
    let t = c.requires in
    let plain = sym (c.is_transparent.ensures t.is_sound t.within) ∙ c.if-is_transparent.false in
    told_clipped _ _ _ _ _ t c.if-hidden.false (λ e. c.if-focused-i.false (sym e)) plain c.if-dropped.false
    (sym (c.is_clipped.ensures t.is_sound t.within plain) ∙ c.if-is_clipped.true)

pub returns : goal.returns
returns c =
    let t = c.requires in
    let plain = sym (c.is_transparent.ensures t.is_sound t.within) ∙ c.if-is_transparent.false in
    told_included _ _ _ _ _ t c.if-hidden.false (λ e. c.if-focused-i.false (sym e)) plain c.if-dropped.false
    (sym (c.is_clipped.ensures t.is_sound t.within plain) ∙ c.if-is_clipped.false)
