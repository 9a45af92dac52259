-- `state_array::put_first_child` meets its contract. Assumes nothing.
use borrow.Author.Tests.{lt-ltb, le-ltb}
use borrow.Author.Rules.{rules}
use Rattle.state_array.proofs.put_first_child.Statement.{statement}
use Rattle.state_array.proofs.put_first_child.Tie as tie

pub put_first_child_spec : {M : Type 1} → statement M
put_first_child_spec = tie.close (tie.spec (λ c κs. search rules) (λ c. search (rules, lt-ltb)) (λ c. search (rules, le-ltb)))
