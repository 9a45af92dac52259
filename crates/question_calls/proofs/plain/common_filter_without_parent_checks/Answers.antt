-- `plain::common_filter_without_parent_checks` meets its contract: the inherited flag is asked. Assumes nothing.
use mathlib.Core.Path.{sym, ◌∙◌}
use Rattle.question_calls.proofs.plain.Own.{checks_by_flag}
use Rattle.question_calls.proofs.plain.Rows.{by_focused, by_hidden, by_transparent, by_plain}
use Rattle.question_calls.proofs.plain.common_filter_without_parent_checks.Goals as goal

pub returns-then-i-focused : goal.returns-then-i-focused
returns-then-i-focused c = λ sound there. by_focused _ sound _ _ there _ c.if-i-focused.true ∙ sym (checks_by_flag _ _)

pub returns-then-is_hidden : goal.returns-then-is_hidden
returns-then-is_hidden c = λ sound there.
    by_hidden _ sound _ _ there _ c.if-i-focused.false (sym (c.is_hidden.ensures sound there) ∙ c.if-is_hidden.true) ∙ sym (checks_by_flag _ _)

pub returns-then-is_transparent : goal.returns-then-is_transparent
returns-then-is_transparent c = λ sound there.
    by_transparent _ sound _ _ there _ c.if-i-focused.false (sym (c.is_hidden.ensures sound there) ∙ c.if-is_hidden.false)
    (sym (c.is_transparent.ensures sound there) ∙ c.if-is_transparent.true) ∙ sym (checks_by_flag _ _)

pub returns : goal.returns
returns c = λ sound there.
    by_plain _ sound _ _ there _ c.if-i-focused.false (sym (c.is_hidden.ensures sound there) ∙ c.if-is_hidden.false)
    (sym (c.is_transparent.ensures sound there) ∙ c.if-is_transparent.false) ∙ sym (checks_by_flag _ _)
