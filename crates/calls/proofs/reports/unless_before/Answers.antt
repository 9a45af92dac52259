-- `reports::unless_before` meets its contract: the marks pick the updated and the removed nodes. Assumes nothing.
use borrow.Author.Rules.{rules}
use Rattle.calls.proofs.reports.Picked.{unless_marked, unless_unmarked, unless_none}
use Rattle.calls.proofs.reports.unless_before.Goals as goal

pub returns-in_err-x : goal.returns-in_err-x
returns-in_err-x c = rw c.in_err-x.was (search (rules, unless_none))

pub returns-then-is_marked : goal.returns-then-is_marked
returns-then-is_marked c = search (unless_marked, c.in_ok-x.was)

pub returns : goal.returns
returns c = rw c.in_ok-x.was (search (unless_unmarked, c.in_ok-x.was))
