-- `why_outcome::grafts::other_graft` meets its contract: a law for each way out. Assumes nothing.
use borrow.Author.Rules.{rules}
use Rattle.calls.proofs.why_outcome.Regrafts.{other_none, other_some}
use Rattle.calls.proofs.why_outcome.grafts.other_graft.Goals as goal

pub returns-then-not-is_graft : goal.returns-then-not-is_graft
returns-then-not-is_graft c = search (rules, other_none)

pub returns : goal.returns
returns c = search (rules, other_some)
