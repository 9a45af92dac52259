-- `state_array::float_at` meets its contract: the f64 of the word. Assumes nothing.
use borrow.Author.Rules.{rules}
use Rattle.state_array.proofs.float_at.Statement.{statement}
use Rattle.state_array.proofs.float_at.Tie as tie

pub float_at_spec : {M : Type 1} → statement M
float_at_spec =
    tie.close (tie.spec (λ c. search rules) (λ c κs. search rules) (λ c κs. search rules) (λ c. cc))
