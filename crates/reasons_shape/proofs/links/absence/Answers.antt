-- `reasons_shape::links::absence` meets its contract: a law for each way out. Assumes nothing.
use Rattle.reasons_shape.proofs.Least.{absence_none, absence_nowhere, absence_below}
use borrow.Author.Rules.{rules}
use native.Mathlib.Omega.{arith}
use Rattle.reasons_shape.proofs.links.absence.Goals as goal

pub returns-in_default : goal.returns-in_default
returns-in_default c = search (rules, absence_none)

pub returns-then-slots-p : goal.returns-then-slots-p
returns-then-slots-p c = search (rules, absence_nowhere)

pub returns : goal.returns
returns c =
    absence_below _ c.least_absent-least.ensures
    c.in-Some.is c.slots.ensures c.first_above-p.ensures (omega arith)
    c.id_found.ensures c.of_node.ensures
