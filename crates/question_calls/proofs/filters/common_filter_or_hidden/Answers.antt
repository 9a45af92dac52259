-- `filters::common_filter_or_hidden` meets its contract: focused, hidden, or neither. Assumes nothing.
use mathlib.Core.Path.{sym, ◌∙◌}
use native.Mathlib.Omega.{arith}
use Rattle.question_calls.proofs.filters.Common.{common_focused, common_hidden}
use Rattle.question_calls.proofs.filters.common_filter_or_hidden.Goals as goal

pub returns-then-i-focused : goal.returns-then-i-focused
returns-then-i-focused c = λ sound there. common_focused _ sound _ _ there c.if-i-focused.true

pub returns-then-slots-i : goal.returns-then-slots-i
returns-then-slots-i c = λ sound there. absurd (omega (arith, c.slots.ensures))

pub returns-then-is_hidden : goal.returns-then-is_hidden
returns-then-is_hidden c = λ sound there.
    common_hidden _ sound _ _ there c.if-i-focused.false (sym (c.is_hidden.ensures sound there) ∙ c.if-is_hidden.true)

pub common_filter-requires : goal.common_filter-requires
common_filter-requires c =
    let sound = c.requires in
    let there = rw c.slots.ensures at c.if-slots-i.false in
    record { is_sound = sound; within = there; shown = sym (c.is_hidden.ensures sound there) ∙ c.if-is_hidden.false }

pub returns : goal.returns
returns c = λ sound there. c.common_filter.ensures
