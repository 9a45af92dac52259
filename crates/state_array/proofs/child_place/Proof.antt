-- `state_array::child_place` meets its contract: a child entry. Assumes nothing.
use borrow.Author.Tests.{lt-ltb, le-ltb}
use borrow.Author.Rules.{rules}
use Rattle.state_array.proofs.child_place.Statement.{statement}
use Rattle.state_array.proofs.child_place.Tie as tie

pub child_place_spec : {M : Type 1} → statement M
child_place_spec =
    tie.close (tie.spec (λ c. search rules) (λ c. search (rules, lt-ltb)) (λ c. search (rules, le-ltb)))
