-- `steps::into` meets its contract: down to the first child, or on where there is none. Assumes nothing.
use mathlib.Core.Path.{ap, ◌∙◌}
use Prim.Native.Nat.{ℕ}
use native.Mathlib.Omega.{arith}
use Rattle.question_calls.specs.Places.{met_from}
use Rattle.question_calls.proofs.steps.Steps.{step_into, step_childless}
use Rattle.question_calls.proofs.steps.into.Goals as goal

pub returns-then-child-slots : goal.returns-then-child-slots
returns-then-child-slots c = λ sound there.
    let a = c.args in
    ap (λ (k : ℕ). met_from a.side a.state.now (record { slot = c.first_child_slot-child.result; level = k })) c.one_more.ensures
    ∙ step_into a.side _ sound a.at.slot a.at.level there _ (c.first_child_slot-child.ensures sound there) (omega arith)

pub returns : goal.returns
returns c = λ sound there.
    let a = c.args in
    c.after.ensures sound there
    ∙ step_childless a.side _ sound a.at.slot a.at.level there _ (c.first_child_slot-child.ensures sound there) (omega arith)
