-- `trees::tree_count` meets its contract. Assumes nothing.
use Rattle.calls.proofs.trees.Entries.{count_known, count_new}
use borrow.Author.Rules.{rules}
use Rattle.calls.proofs.trees.tree_count.Statement.{statement}
use Rattle.calls.proofs.trees.tree_count.Tie as tie

pub tree_count_spec : {M : Type 1} → statement M
tree_count_spec =
    tie.close (tie.spec (λ c κs. search rules) (λ c. search rules) (λ c. search count_known) (λ c. search rules) (λ c. search count_new))
