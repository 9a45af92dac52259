-- `state_fields::are_zero` meets its contract: each word passed is 0. Assumes nothing.
use Rattle.base.proofs.Scan.{scan}
use Rattle.state_fields.proofs.Fields.{word_zero, word_nonzero}
use Rattle.state_fields.proofs.are_zero.Goals as goal

pub loop-k-init : goal.loop-k-init
loop-k-init c = search scan

pub returns-then-word_at-ne0 : goal.returns-then-word_at-ne0
returns-then-word_at-ne0 c = search (scan, word_nonzero)

pub loop-k-preserved : goal.loop-k-preserved
loop-k-preserved c = search (scan, word_zero)
