-- `state_array::node_place` meets its contract: a field of a slot. Assumes nothing.
use borrow.Author.Tests.{lt-ltb, le-ltb}
use Rattle.base.specs.Tests.{◌and◌}
use borrow.Author.Rules.{rules}
use Rattle.state_array.proofs.node_place.Statement.{statement}
use Rattle.state_array.proofs.node_place.Tie as tie

pub node_place_spec : {M : Type 1} → statement M
unfolding ◌and◌
node_place_spec =
    tie.close
    (tie.spec
    (λ c. search (rules, le-ltb))
    (λ c. search rules)
    (λ c. search rules)
    (λ c. search rules)
    (λ c. search (rules, lt-ltb, le-ltb))
    (λ c. search (rules, lt-ltb, le-ltb)))
