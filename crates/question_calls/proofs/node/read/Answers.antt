-- `node::read` meets its contract: refused, or what the slot says. Assumes nothing.
use mathlib.Core.Path.{ap, ◌∙◌}
use Rattle.std.specs.Prelude.{Ok}
use Rattle.question_calls.proofs.node_asked.Asks.{asked_here}
use Rattle.question_calls.proofs.own.Fields.{reading_exit, reading_given}
use Rattle.question_calls.proofs.node.read.Goals as goal

pub returns-in_err-slot : goal.returns-in_err-slot
returns-in_err-slot c = reading_exit _ _ _ _ c.from_residual.ensures.1 c.in_err-slot.ensures.number_is

pub reading-requires : goal.reading-requires
reading-requires c = asked_here _ _ _ c.in_ok-slot.ensures.stands

pub returns : goal.returns
returns c =
    let q = c.in_ok-slot.ensures in
    ap Ok c.reading.ensures ∙ reading_given _ _ _ q.number_is q.stands
