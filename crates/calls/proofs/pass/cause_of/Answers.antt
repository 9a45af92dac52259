-- `pass::cause_of` meets its contract: the rows in their order. Assumes nothing.
use Rattle.calls.proofs.pass.Rows.{due_room, placeless_first}
use Rattle.calls.proofs.notes.Told.{few_listed}
use Rattle.calls.proofs.pass.Causes.{row_met, row_placeless, row_nowhere, row_none}
use Rattle.calls.proofs.pass.cause_of.Goals as goal

pub firsts_of-firsts-requires : goal.firsts_of-firsts-requires
firsts_of-firsts-requires c = search due_room

pub returns-in-Some : goal.returns-in-Some
returns-in-Some c = search row_met

pub placeless-i-requires : goal.placeless-i-requires
placeless-i-requires c = search few_listed

pub returns-then-i-scope : goal.returns-then-i-scope
returns-then-i-scope c =
    let dues = c.dues-due in
    row_placeless c.fault.ensures c.in_default.is c.requires.given.scoped.listed
    (placeless_first c.requires dues.result dues.ensures c.placeless-i.ensures) c.if-i-scope.true

pub returns-then-j-scope : goal.returns-then-j-scope
returns-then-j-scope c =
    let dues = c.dues-due in
    let scoped = c.requires.given.scoped in
    row_nowhere c.fault.ensures c.in_default.is scoped.listed
    (placeless_first c.requires dues.result dues.ensures c.placeless-i.ensures)
    c.if-i-scope.false scoped.named c.nowhere-j.ensures c.if-j-scope.true

pub returns : goal.returns
returns c =
    let dues = c.dues-due in
    let scoped = c.requires.given.scoped in
    row_none c.fault.ensures c.in_default.is scoped.listed
    (placeless_first c.requires dues.result dues.ensures c.placeless-i.ensures)
    c.if-i-scope.false scoped.named c.nowhere-j.ensures c.if-j-scope.false
