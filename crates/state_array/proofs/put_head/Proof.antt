-- `state_array::put_head` meets its contract: three words. Assumes nothing.
use mathlib.Core.Path.{refl}
use Rattle.state_array.specs.Put.{puts}
use borrow.Author.Rules.{rules}
use Rattle.state_array.proofs.put_head.Statement.{statement}
use Rattle.state_array.proofs.put_head.Tie as tie

pub put_head_spec : {M : Type 1} → statement M
put_head_spec = tie.close (tie.spec (λ c. search rules) (λ c. search rules) (λ c. search rules) (λ c. unfold puts in refl))
