-- `state_lookup::slot_near` meets its contract: a slot where the id stands is its slot. Assumes nothing.
use borrow.Author.Rules.{rules}
use Rattle.state_lookup.proofs.Order.{slot_here}
use Rattle.state_lookup.proofs.slot_near.Goals as goal

pub returns-then-stands : goal.returns-then-stands
returns-then-stands c = search (rules, slot_here)

pub returns-then-stands-2 : goal.returns-then-stands-2
returns-then-stands-2 c = slot_here c.stands-2.ensures c.slots-n.ensures c.if-stands-2.true
