-- `apply::apply` meets its contract: a law for each way out. Assumes nothing.
use borrow.Author.Rules.{rules}
use Rattle.calls.proofs.writing.Plan.{told_compared}
use Rattle.calls.proofs.notes.Told.{few_listed}
use Rattle.calls.proofs.rows.Clashes.{clash_room, clash_any}
use Rattle.calls.proofs.apply.Applied.{applied_early, applied_last}
use Rattle.calls.specs.Refusals.{verdict}
use Rattle.calls.proofs.apply.apply.Goals as goal

pub returns-in_err-pass_rows : goal.returns-in_err-pass_rows
unfolding verdict
returns-in_err-pass_rows c = search (rules, applied_early)

pub first_clash-requires : goal.first_clash-requires
first_clash-requires c = let told = told_compared c.write.ensures.told in record { k_bound = few_listed _ _ _ told.given; clash_room = clash_room told }

pub returns : goal.returns
returns c =
    applied_last _ _ _ _ _ _ _ c.pass_rows.ensures c.in_ok-pass_rows.was c.write.ensures
    (rw (← clash_any (told_compared c.write.ensures.told) c.first_clash.ensures) c.last_rows.ensures)
