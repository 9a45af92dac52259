-- `gone::climbed` meets its contract. Assumes nothing.
use mathlib.Core.Path.{◌∙◌}
use Rattle.calls.proofs.gone.Climb.{climb_start, climb_left, climb_same, memo_known, memo_step}
use native.Mathlib.Omega.{arith}
use Rattle.calls.proofs.gone.climbed.Goals as goal

pub loop-init : goal.loop-init
loop-init c = climb_start _ _ _ (omega (arith, c.slots-end.ensures)) c.requires.i_bound

pub returns-then-known-ne-AS_PARENT : goal.returns-then-known-ne-AS_PARENT
returns-then-known-ne-AS_PARENT c =
    let climb = c.loop.invariant in
    memo_known _ _ _ c.requires.fated _ climb.there c.if-known-ne-AS_PARENT.true ∙ climb_same _ _ _ climb

pub loop-preserved : goal.loop-preserved
loop-preserved c = memo_step _ _ _ c.requires.fated c.loop.invariant c.if-known-ne-AS_PARENT.false (omega arith)

pub returns : goal.returns
returns c = climb_left _ _ _ c.loop.invariant (omega arith)
