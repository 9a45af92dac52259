-- `walk::plain_at` meets its contract: the sibling at its place. Assumes nothing.
use native.Mathlib.Omega.{arith}
use Rattle.state_array.specs.View.{id_in, view}
use Rattle.questions.specs.Links.{siblings}
use Rattle.question_calls.proofs.walk.Steps.{place_nothing, place_found}
use Rattle.question_calls.proofs.walk.plain_at.Goals as goal

pub returns-then-run-k : goal.returns-then-run-k
returns-then-run-k c = λ sound there.
    let a = c.args in
    let run = c.siblings_run-run.ensures in
    place_nothing (siblings a.side (view a.state.now).forest (id_in a.state.now a.i)) a.count (omega (arith, run.count_is, c.if-run-k.true))

pub sibling_at-requires : goal.sibling_at-requires
sibling_at-requires c = record { sound = c.requires.sound; in_run = c.siblings_run-run.ensures.stands _ c.if-run-k.false }

pub returns : goal.returns
returns c = λ sound there.
    let a = c.args in
    place_found (siblings a.side (view a.state.now).forest (id_in a.state.now a.i)) a.count _ _ c.sibling_at.ensures (c.siblings_run-run.ensures.each _ c.if-run-k.false)
