-- `own::node_at` meets its contract: a law for each way out. Assumes nothing.
use Rattle.std.specs.Prelude.{Some}
use mathlib.Core.Path.{sym, ap, ◌∙◌}
use native.Mathlib.Omega.{arith}
use Rattle.question_calls.proofs.links.Slots.{slot_id_none, slot_id_some}
use Rattle.question_calls.proofs.own.node_at.Goals as goal

pub returns-then-slots-i : goal.returns-then-slots-i
returns-then-slots-i c =
    let a = c.args in
    sym (slot_id_none a.state.now a.i (omega (arith, c.slots.ensures)))

pub returns : goal.returns
returns c =
    let a = c.args in
    ap Some c.id_at.ensures ∙ sym (slot_id_some a.state.now a.i (omega (arith, c.slots.ensures)))
