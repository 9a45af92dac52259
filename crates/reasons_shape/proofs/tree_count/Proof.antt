-- `reasons_shape::tree_count` meets its contract: a law for each way out. Assumes nothing.
use Rattle.reasons_shape.proofs.Slots.{few_trees, many_trees}
use borrow.Author.Rules.{rules}
use Rattle.reasons_shape.proofs.tree_count.Statement.{statement}
use Rattle.reasons_shape.proofs.tree_count.Tie as tie

pub tree_count_spec : {M : Type 1} → statement M
tree_count_spec =
    tie.close
    (tie.spec
    (λ c κs. search rules)
    (λ c κs. search rules)
    (λ c. search (rules, many_trees))
    (λ c κs. search rules)
    (λ c. search (rules, few_trees)))
