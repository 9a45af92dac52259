-- `reasons_shape::of_rule` meets its contract: a node's reason without nodes. Assumes nothing.
use borrow.Author.Rules.{rules}
use Rattle.reasons_shape.proofs.of_rule.Statement.{statement}
use Rattle.reasons_shape.proofs.of_rule.Tie as tie

pub of_rule_spec : {M : Type 1} → statement M
of_rule_spec =
    tie.close
    (tie.spec
    (λ c κs. search rules)
    (λ c. search rules))
