-- `gone::parent_slot` meets its contract. Assumes nothing.
use borrow.Author.Rules.{rules}
use Rattle.ids.proofs.Ids.{id_test}
use Rattle.calls.proofs.gone.Slots.{slot_top, slot_under, slot_near}
use Rattle.calls.proofs.gone.parent_slot.Goals as goal

pub returns-then-l-eq0 : goal.returns-then-l-eq0
returns-then-l-eq0 c = search slot_top

pub returns-then-eq : goal.returns-then-eq
returns-then-eq c = search (rules, id_test, slot_near)

pub returns : goal.returns
returns c = search slot_under
