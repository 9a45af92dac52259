-- `notes::refuse` meets its contract: 0 refuses nothing. Assumes nothing.
use Rattle.calls.specs.Refusals.{verdict}
use Rattle.calls.proofs.notes.Verdicts.{verdict_refuses}
use Rattle.calls.proofs.notes.refuse.Goals as goal

pub returns-then-number-eq0 : goal.returns-then-number-eq0
unfolding verdict
returns-then-number-eq0 c = rw c.if-number-eq0.true

pub returns : goal.returns
returns c = verdict_refuses _ c.if-number-eq0.false
