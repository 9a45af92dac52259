-- `reasons_shape::node_count` meets its contract: a law for each way out. Assumes nothing.
use Rattle.reasons_shape.proofs.Slots.{few_nodes, many_nodes}
use borrow.Author.Rules.{rules}
use Rattle.reasons_shape.proofs.node_count.Statement.{statement}
use Rattle.reasons_shape.proofs.node_count.Tie as tie

pub node_count_spec : {M : Type 1} → statement M
node_count_spec =
    tie.close
    (tie.spec
    (λ c κs. search rules)
    (λ c κs. search rules)
    (λ c. search (rules, many_nodes))
    (λ c κs. search rules)
    (λ c. search (rules, few_nodes)))
