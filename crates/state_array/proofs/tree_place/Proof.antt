-- `state_array::tree_place` meets its contract: a field of a tree. Assumes nothing.
use borrow.Author.Tests.{lt-ltb, le-ltb}
use Rattle.base.specs.Tests.{◌and◌}
use borrow.Author.Rules.{rules}
use Rattle.state_array.proofs.tree_place.Statement.{statement}
use Rattle.state_array.proofs.tree_place.Tie as tie

pub tree_place_spec : {M : Type 1} → statement M
unfolding ◌and◌
tree_place_spec =
    tie.close
    (tie.spec
    (λ c. search (rules, le-ltb))
    (λ c. search rules)
    (λ c. search rules)
    (λ c. search rules)
    (λ c. search (rules, lt-ltb, le-ltb))
    (λ c. search (rules, lt-ltb, le-ltb)))
