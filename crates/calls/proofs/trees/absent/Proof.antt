-- `trees::absent` meets its contract. Assumes nothing.
use mathlib.Core.Path.{refl}
use Rattle.state_array.specs.Stored.{tree_row}
use Rattle.calls.proofs.trees.absent.Statement.{statement}
use Rattle.calls.proofs.trees.absent.Tie as tie

pub absent_spec : {M : Type 1} → statement M
absent_spec = tie.close (tie.spec (λ c. unfold tree_row in refl))
