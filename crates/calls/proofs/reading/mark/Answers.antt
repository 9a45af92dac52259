-- `reading::mark` meets its contract. Assumes nothing.
use mathlib.Core.Path.{◌≡◌}
use Rattle.calls.proofs.reading.Reading.{marking_begins, marking_past, marking_kept, marking_stored}
use native.Mathlib.Omega.{arith}
use Rattle.calls.proofs.reading.mark.Goals.{then-i-n+then-notes-to-lt1, else-i-n, else-i-n-via-then-i-n+else-notes-to-lt1, else-i-n-via-else-i-n}
use Rattle.calls.proofs.reading.mark.Goals as goal

pub loop-j-init : goal.loop-j-init
loop-j-init c = search marking_begins

pub loop-j-preserved : goal.loop-j-preserved
loop-j-preserved c = elim c.if-i-n.branch [
  | then-i-n+then-notes-to-lt1 w ↦ rw w.notes-is (search marking_stored)
  | else-i-n w ↦ rw w.notes-is (
      elim w.else-i-n.branch [
        | else-i-n-via-then-i-n+else-notes-to-lt1 v ↦ search marking_kept
        | else-i-n-via-else-i-n v ↦ search marking_past
      ])
]

pub returns : goal.returns
returns c =
    let done : c.loop-j.j ≡ c.args.count = omega arith in
    record { below = c.loop-j.invariant.below; marks = rw (← done) c.loop-j.invariant.marks }
