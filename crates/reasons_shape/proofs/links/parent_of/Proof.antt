-- `reasons_shape::links::parent_of` meets its contract: a law for each way out. Assumes nothing.
use Rattle.reasons_shape.proofs.LinkRules.{parent_none, parent_some}
use borrow.Author.Rules.{rules}
use Rattle.reasons_shape.proofs.links.parent_of.Statement.{statement}
use Rattle.reasons_shape.proofs.links.parent_of.Tie as tie

pub parent_of_spec : {M : Type 1} → statement M
parent_of_spec =
    tie.close
    (tie.spec
    (λ c. search (rules, parent_none))
    (λ c. search (rules, parent_some)))
