-- `filters::is_passed` meets its contract: with the exception or without it. Assumes nothing.
use mathlib.Core.Path.{◌∙◌, ap}
use Rattle.base.specs.Tests.{◌and◌}
use Rattle.base.proofs.Tests.{call_false, call_true}
use Rattle.question_calls.specs.Filters.{is_exclude_node}
use Rattle.question_calls.proofs.filters.Near.{passed_plain, passed_excepted}
use Rattle.question_calls.proofs.filters.is_passed.Goals as goal

pub returns-then-not-has_root_exception : goal.returns-then-not-has_root_exception
returns-then-not-has_root_exception c = λ sound there.
    c.is_exclude_node-passed.ensures ∙ ap is_exclude_node (c.common_filter_without_parent_checks-result.ensures sound there)
    ∙ passed_plain _ _ _ (call_false c.has_root_exception.ensures c.if-not-has_root_exception.true)

pub returns : goal.returns
unfolding ◌and◌
returns c = λ sound there.
    rw (c.is_exclude_node-passed.ensures, c.common_filter_without_parent_checks-result.ensures sound there, c.is_root.ensures)
    (passed_excepted _ _ _ (call_true c.has_root_exception.ensures c.if-not-has_root_exception.false))
