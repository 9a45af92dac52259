-- `gone::pass_on` meets its contract. Assumes nothing.
use mathlib.Core.Path.{sym, ◌∙◌}
use Rattle.calls.proofs.gone.Climb.{climb_start, climb_same, memo_step, memo_set}
use native.Mathlib.Omega.{arith}
use Rattle.calls.proofs.gone.pass_on.Goals as goal

pub loop-init : goal.loop-init
loop-init c = (climb_start _ _ _ (omega (arith, c.slots-end.ensures)) c.requires.i_bound.0, c.requires.fated)

pub loop-preserved : goal.loop-preserved
loop-preserved c =
    let climb = c.loop.invariant.0 in
    let fated = c.loop.invariant.1 in (
      memo_step _ _ _ fated climb c.if-notes-at-ne-AS_PARENT.false (omega arith),
      memo_set _ _ _ fated _ _ climb.there (c.requires.i_bound.1 ∙ sym (climb_same _ _ _ climb)),
    )
