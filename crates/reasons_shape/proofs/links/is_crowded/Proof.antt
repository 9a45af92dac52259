-- `reasons_shape::links::is_crowded` meets its contract: one test. Assumes nothing.
use Rattle.reasons_shape.proofs.LinkRules.{crowded_row}
use borrow.Author.Rules.{rules}
use Rattle.reasons_shape.proofs.links.is_crowded.Statement.{statement}
use Rattle.reasons_shape.proofs.links.is_crowded.Tie as tie

pub is_crowded_spec : {M : Type 1} → statement M
is_crowded_spec =
    tie.close
    (tie.spec
    (λ c κs. search rules)
    (λ c. search (rules, crowded_row)))
