-- `reasons_shape::links::lesser` meets its contract: a law for each way out. Assumes nothing.
use Rattle.reasons_shape.proofs.Least.{lesser_only, lesser_new, lesser_old}
use borrow.Author.Rules.{rules}
use Rattle.reasons_shape.proofs.links.lesser.Statement.{statement}
use Rattle.reasons_shape.proofs.links.lesser.Tie as tie

pub lesser_spec : {M : Type 1} → statement M
lesser_spec =
    tie.close
    (tie.spec
    (λ c. search rules)
    (λ c. search rules)
    (λ c xs e. search (rules, lesser_only))
    (λ c κs. search rules)
    (λ c xs e. search (rules, lesser_new))
    (λ c xs e. search (rules, lesser_old)))
