-- `own::transform` meets its contract: a law for each way out. Assumes nothing.
use Rattle.base.proofs.Tests.{call_false, call_true}
use Rattle.question_calls.proofs.own.Fields.{no_transform, own_transform}
use Rattle.question_calls.proofs.own.transform.Goals as goal

pub returns-then-not-flag : goal.returns-then-not-flag
returns-then-not-flag c =
    let a = c.args in
    no_transform a.state.now a.i _ c.word_at.ensures (call_false c.flag.ensures c.if-not-flag.true)

pub returns : goal.returns
returns c =
    let a = c.args in
    own_transform a.state.now a.i _ c.word_at.ensures (call_true c.flag.ensures c.if-not-flag.false) _ c.transform_at.ensures
