-- `rows::last_rows` meets its contract: a law for each row. Assumes nothing.
use Rattle.calls.proofs.rows.Outcomes.{last_are, last_many, last_clear}
use Rattle.base.proofs.Loops.{rows}
use Rattle.calls.proofs.notes.Verdicts.{verdict_told, verdict_clear}
use Rattle.calls.proofs.rows.last_rows.Goals as goal

pub returns-then-twice : goal.returns-then-twice
returns-then-twice c = verdict_told c.refuse.ensures (rw last_are (search rows depth 7))

pub returns-then-number-ne0 : goal.returns-then-number-ne0
returns-then-number-ne0 c = verdict_told c.refuse-then-number-ne0.ensures (rw last_are (search rows depth 7))

pub returns-then-clash : goal.returns-then-clash
returns-then-clash c = verdict_told c.refuse-then-clash.ensures (rw last_are (search rows depth 7))

pub returns-then-not-sound : goal.returns-then-not-sound
returns-then-not-sound c = verdict_told c.refuse-then-not-sound.ensures (rw last_are (search rows depth 7))

pub returns-then-slots-gt-MOST_NODES : goal.returns-then-slots-gt-MOST_NODES
returns-then-slots-gt-MOST_NODES c = verdict_told c.refuse-then-slots-gt-MOST_NODES.ensures (search last_many)

pub returns : goal.returns
returns c = verdict_clear _ (search last_clear)
