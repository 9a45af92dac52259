-- `why_outcome::clash_why` meets its contract: a law for each way out. Assumes nothing.
use borrow.Author.Rules.{rules}
use Rattle.calls.proofs.why_outcome.Regrafts.{clash_none, clash_claims, clash_holds}
use Rattle.calls.proofs.why_outcome.clash_why.Goals as goal

pub returns-in_default : goal.returns-in_default
returns-in_default c = search (rules, clash_none)

pub returns-then-claims : goal.returns-then-claims
returns-then-claims c = search (rules, clash_claims)

pub returns : goal.returns
returns c = search (rules, clash_holds)
