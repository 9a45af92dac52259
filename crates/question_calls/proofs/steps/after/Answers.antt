-- `steps::after` meets its contract: what is ahead from here is what is ahead of the node it began at. Assumes nothing.
use mathlib.Core.Path.{◌≡◌, ◌∙◌}
use native.Mathlib.Omega.{arith}
use Rattle.question_calls.proofs.steps.Steps.{met_end, step_aside, step_end, step_top, step_up}
use Rattle.question_calls.proofs.steps.after.Goals as goal

pub returns-then-next-n : goal.returns-then-next-n
returns-then-next-n c = λ sound there.
    let l = c.loop-level in
    let w = l.invariant sound there in
    step_aside _ _ sound l.i l.level w.0 _ (c.sibling_slot-next.ensures sound w.0) (omega arith) ∙ w.1

pub returns-then-n-i : goal.returns-then-n-i
returns-then-n-i c = λ sound there.
    let l = c.loop-level in
    let w = l.invariant sound there in
    met_end _ _ _ 0 (omega arith) ∙ step_top _ _ sound l.i l.level w.0 0 _ (c.parent_slot-i.ensures sound w.0) (omega arith) ∙ w.1

pub loop-level-preserved : goal.loop-level-preserved
loop-level-preserved c = λ sound there.
    let l = c.loop-level in
    let w = l.invariant sound there in (
      omega arith,
      step_up _ _ sound l.i l.level w.0 _ _ (c.parent_slot-i.ensures sound w.0) (c.sibling_slot-next.ensures sound w.0)
          (omega arith) (omega arith) (omega arith)
          ∙ w.1,
    )

pub returns-else-n-i : goal.returns-else-n-i
returns-else-n-i c = λ sound there.
    let l = c.loop-level in
    let w = l.invariant sound there in
    let n : l.level ≡ 0 = omega arith in
    met_end _ _ _ 0 (omega arith) ∙ step_end _ _ sound l.i l.level w.0 _ (c.sibling_slot-next.ensures sound w.0) (omega arith) n ∙ w.1
