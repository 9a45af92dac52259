-- `why_outcome::climb::listed_parent` meets its contract: a law for each way out. Assumes nothing.
use borrow.Author.Rules.{rules}
use Rattle.calls.proofs.notes.Noted.{parent_none, parent_some}
use Rattle.calls.proofs.why_outcome.climb.listed_parent.Statement.{statement}
use Rattle.calls.proofs.why_outcome.climb.listed_parent.Tie as tie

pub listed_parent_spec : {M : Type 1} → statement M
listed_parent_spec =
    tie.close
    (tie.spec
    (λ c. search rules) (λ c. search rules) (λ c. search rules)
    (λ c. search rules) (λ c. search rules) (λ c. search rules)
    (λ c. search parent_none)
    (λ c. search parent_some))
