-- `state_array::put_child` meets its contract. Assumes nothing.
use borrow.Author.Tests.{lt-ltb, le-ltb}
use borrow.Author.Rules.{rules}
use Rattle.state_array.proofs.put_child.Statement.{statement}
use Rattle.state_array.proofs.put_child.Tie as tie

pub put_child_spec : {M : Type 1} → statement M
put_child_spec = tie.close (tie.spec (λ c. search rules) (λ c. search rules) (λ c. search rules) (λ c. search (rules, lt-ltb)) (λ c. search (rules, le-ltb)))
