-- `state_fields::are_finite` meets its contract: each word passed is a finite number's pattern. Assumes nothing.
use Rattle.base.proofs.Scan.{scan}
use Rattle.state_fields.proofs.are_finite.Goals as goal

pub loop-k-init : goal.loop-k-init
loop-k-init c = search scan

pub returns-then-not-finite_bits : goal.returns-then-not-finite_bits
returns-then-not-finite_bits c = search (scan, ← c.word_at.ensures)

pub loop-k-preserved : goal.loop-k-preserved
loop-k-preserved c = search (scan, ← c.word_at.ensures)
