-- `reasons_shape::links::parent_at` meets its contract: a law for each way out. Assumes nothing.
use Rattle.reasons_shape.proofs.LinkRules.{parent_absent, parent_there}
use borrow.Author.Rules.{rules}
use Rattle.reasons_shape.proofs.links.parent_at.Statement.{statement}
use Rattle.reasons_shape.proofs.links.parent_at.Tie as tie

pub parent_at_spec : {M : Type 1} → statement M
parent_at_spec =
    tie.close
    (tie.spec
    (λ c κs. search rules)
    (λ c κs. search rules)
    (λ c. search (rules, parent_absent))
    (λ c κs. search rules)
    (λ c κs. search rules)
    (λ c. search (rules, parent_there)))
