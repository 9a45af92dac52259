-- `plain::own_filter_at` meets its contract: the node's own flag is asked. Assumes nothing.
use mathlib.Core.Path.{sym, ◌∙◌}
use Rattle.question_calls.proofs.plain.Own.{own_by_flag}
use Rattle.question_calls.proofs.plain.Rows.{by_focused, by_hidden, by_transparent, by_plain}
use Rattle.question_calls.proofs.plain.own_filter_at.Goals as goal

pub returns-then-i-focused : goal.returns-then-i-focused
returns-then-i-focused c = λ sound there. by_focused _ sound _ _ there _ c.if-i-focused.true ∙ sym (own_by_flag _ _)

pub returns-then-hidden_at : goal.returns-then-hidden_at
returns-then-hidden_at c = λ sound there.
    by_hidden _ sound _ _ there _ c.if-i-focused.false (sym (c.hidden_at.ensures sound there) ∙ c.if-hidden_at.true) ∙ sym (own_by_flag _ _)

pub returns-then-is_transparent : goal.returns-then-is_transparent
returns-then-is_transparent c = λ sound there.
    by_transparent _ sound _ _ there _ c.if-i-focused.false (sym (c.hidden_at.ensures sound there) ∙ c.if-hidden_at.false)
    (sym (c.is_transparent.ensures sound there) ∙ c.if-is_transparent.true) ∙ sym (own_by_flag _ _)

pub returns : goal.returns
returns c = λ sound there.
    by_plain _ sound _ _ there _ c.if-i-focused.false (sym (c.hidden_at.ensures sound there) ∙ c.if-hidden_at.false)
    (sym (c.is_transparent.ensures sound there) ∙ c.if-is_transparent.false) ∙ sym (own_by_flag _ _)
