-- `state_lookup::slot_hinted` meets its contract: a slot where the id stands is its slot. Assumes nothing.
use borrow.Author.Rules.{rules}
use Rattle.state_lookup.proofs.Order.{slot_here}
use Rattle.state_lookup.proofs.slot_hinted.Goals as goal

pub returns-then-stands : goal.returns-then-stands
returns-then-stands c = search (rules, slot_here)
