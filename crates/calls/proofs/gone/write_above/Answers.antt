-- `gone::write_above` meets its contract. Assumes nothing.
use Rattle.calls.specs.Says.{READ}
use Rattle.calls.proofs.notes.Told.{told_filled}
use Rattle.calls.proofs.gone.Slots.{above_is}
use native.Mathlib.Omega.{arith}
use Rattle.base.proofs.Loops.{filling_begins, filling_goes, filling_ends}
use Rattle.calls.proofs.gone.write_above.Goals as goal

pub loop-i-init : goal.loop-i-init
loop-i-init c = filling_begins (omega arith)

pub loop-i-preserved : goal.loop-i-preserved
loop-i-preserved c = filling_goes c.loop-i.invariant c.loop-i-test.true (rw c.link_at.ensures at c.parent_slot-near.ensures)

pub returns : goal.returns
returns c =
    let told = c.requires in
    told_filled _ _ _ _ _ READ _ _ told (omega arith) (filling_ends c.loop-i.invariant c.loop-i-test.false) c.slots-i-end.ensures (λ j h. above_is _ _ _ j h)
