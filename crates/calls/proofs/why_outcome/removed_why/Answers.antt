-- `why_outcome::removed_why` meets its contract: a law for each way out. Assumes nothing.
use native.Mathlib.Omega.{arith}
use borrow.Author.Rules.{rules}
use Rattle.calls.proofs.notes.Told.{few_listed}
use Rattle.calls.proofs.why_outcome.Climbs.{told_fewer, removed_none, removed_within, removed_some}
use Rattle.calls.proofs.rows.Clashes.{clash_room}
use Rattle.calls.proofs.why_outcome.removed_why.Goals as goal

pub first_clash-i-requires : goal.first_clash-i-requires
first_clash-i-requires c = let told = c.requires in record { k_bound = few_listed _ _ _ told.given; clash_room = clash_room (told_fewer (omega arith) told) }

pub returns-then-scope-i : goal.returns-then-scope-i
returns-then-scope-i c = search (rules, removed_none)

pub overflow_add-slot : goal.overflow_add-slot
overflow_add-slot c = omega (arith, few_listed)

pub offset_bounds-notes-i : goal.offset_bounds-notes-i
offset_bounds-notes-i c = omega (arith, few_listed)

pub bounds-notes-i : goal.bounds-notes-i
bounds-notes-i c = omega (arith, few_listed)

pub gone_why-requires : goal.gone_why-requires
gone_why-requires c = search (rules, removed_within)

pub returns : goal.returns
returns c = search (rules, removed_some)
