-- `gone::write_fates` meets its contract. Assumes nothing.
use Rattle.calls.specs.Layout.{FATES}
use Rattle.calls.proofs.notes.Columns.{holds_fill}
use Rattle.calls.proofs.notes.Told.{told_fill}
use Rattle.calls.specs.Fates.{ABOVE_TOLD}
use Rattle.calls.proofs.gone.Climb.{fated}
use native.Mathlib.Omega.{arith}
use Rattle.base.proofs.Loops.{filling_begins, filling_goes, filling_ends}
use Rattle.calls.proofs.gone.write_fates.Goals as goal

pub loop-i-init : goal.loop-i-init
loop-i-init c = filling_begins (omega arith)

pub fate_at-fate-requires : goal.fate_at-fate-requires
fate_at-fate-requires c =
    let told = c.requires in
    record { told = rw c.loop-i.invariant.filled (told_fill _ _ _ _ ABOVE_TOLD told FATES _ _ (omega arith)); i_bound = omega (arith, c.slots-i-end.ensures) }

pub loop-i-preserved : goal.loop-i-preserved
loop-i-preserved c = search filling_goes

pub returns : goal.returns
returns c =
    let told = c.requires in
    rw (filling_ends c.loop-i.invariant c.loop-i-test.false, c.slots-i-end.ensures)
    (fated _ _ _ _ (told_fill _ _ _ _ ABOVE_TOLD told FATES _ _ (omega arith)) (holds_fill FATES _ _ _ (omega (arith, told.long))))
