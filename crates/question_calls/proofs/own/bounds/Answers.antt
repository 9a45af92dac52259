-- `own::bounds` meets its contract: a law for each way out. Assumes nothing.
use Rattle.base.proofs.Tests.{call_false, call_true}
use Rattle.question_calls.proofs.own.Fields.{no_bounds, own_bounds}
use Rattle.question_calls.proofs.own.bounds.Goals as goal

pub returns-then-not-flag : goal.returns-then-not-flag
returns-then-not-flag c =
    let a = c.args in
    no_bounds a.state.now a.i _ c.word_at.ensures (call_false c.flag.ensures c.if-not-flag.true)

pub returns : goal.returns
returns c =
    let a = c.args in
    own_bounds a.state.now a.i _ c.word_at.ensures (call_true c.flag.ensures c.if-not-flag.false) _ c.bounds_at.ensures
