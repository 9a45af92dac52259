-- `notes::claimed_from` meets its contract: the claimer of the tree that the slot grafts, if it grafts one. Assumes nothing.
use borrow.Author.Rules.{rules}
use Rattle.calls.proofs.notes.Grafts.{claimed_none, claimed_some}
use Rattle.calls.proofs.notes.claimed_from.Goals as goal

pub returns-then-not-grafts_old : goal.returns-then-not-grafts_old
returns-then-not-grafts_old c = search (rules, claimed_none)

pub returns : goal.returns
returns c = search (rules, claimed_some)
