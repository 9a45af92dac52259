-- `filters::common_filter_with_root_exception` meets its contract: ROOT's root, or another. Assumes nothing.
use mathlib.Core.Path.{sym, ◌∙◌}
use Rattle.question_calls.proofs.filters.Common.{exception_root, exception_other}
use Rattle.question_calls.proofs.filters.common_filter_with_root_exception.Goals as goal

pub returns-then-is_root : goal.returns-then-is_root
returns-then-is_root c = λ sound there. exception_root _ _ (sym c.is_root.ensures ∙ c.if-is_root.true)

pub returns : goal.returns
returns c = λ sound there.
    c.common_filter_or_hidden.ensures sound there ∙ exception_other _ _ (sym c.is_root.ensures ∙ c.if-is_root.false)
