-- `own::graft` meets its contract: a law for each way out. Assumes nothing.
use Rattle.base.proofs.Tests.{call_false, call_true}
use Rattle.question_calls.proofs.own.Fields.{no_graft, own_graft}
use Rattle.question_calls.proofs.own.graft.Goals as goal

pub returns-then-not-is_graft : goal.returns-then-not-is_graft
returns-then-not-is_graft c =
    let a = c.args in
    no_graft a.state.now a.i _ c.shape_at-shape.ensures (call_false c.is_graft.ensures c.if-not-is_graft.true)

pub returns : goal.returns
returns c =
    let a = c.args in
    own_graft a.state.now a.i _ c.shape_at-shape.ensures (call_true c.is_graft.ensures c.if-not-is_graft.false)
