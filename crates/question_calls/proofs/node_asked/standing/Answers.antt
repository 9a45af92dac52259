-- `node_asked::standing` meets its contract: a law for each way out. Assumes nothing.
use native.Mathlib.Omega.{arith}
use Rattle.question_calls.proofs.node_asked.Asks.{asks_absent, asks_there}
use Rattle.question_calls.proofs.node_asked.standing.Goals as goal

pub returns-then-slots-slot : goal.returns-then-slots-slot
returns-then-slots-slot c = asks_absent _ _ c.requires _ c.slot_of-slot.ensures (rw c.slots.ensures at c.if-slots-slot.true)

pub returns : goal.returns
returns c = asks_there _ _ c.requires _ c.slot_of-slot.ensures (omega (arith, c.slots.ensures))
