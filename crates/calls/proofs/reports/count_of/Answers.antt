-- `reports::count_of` meets its contract: the slots passed are counted. Assumes nothing.
use mathlib.Core.Path.{sym, ap, ◌∙◌}
use lib.ListN.{length}
use Rattle.calls.proofs.reports.Slice.{slots_none, count_hit, count_miss}
use native.Mathlib.Omega.{arith}
use Rattle.calls.proofs.reports.count_of.Goals as goal
use Rattle.calls.proofs.reports.count_of.Goals.{then-has_bit, else-has_bit}

pub loop-i-init : goal.loop-i-init
loop-i-init c = (omega arith, sym (ap length (slots_none _ _ _)))

pub loop-i-preserved : goal.loop-i-preserved
loop-i-preserved c =
    let i = c.loop-i.i in
    let a = c.args in
    let bit = sym c.has_bit.ensures in
    elim c.if-has_bit.branch [
      | then-has_bit w ↦ (omega (arith, w.count-is), w.count-is ∙ omega (arith, count_hit a.weight a.notes.now a.start i (bit ∙ w.if-has_bit.true)))
      | else-has_bit w ↦ (omega (arith, w.count-is), w.count-is ∙ omega (arith, count_miss a.weight a.notes.now a.start i (bit ∙ w.if-has_bit.false)))
    ]
