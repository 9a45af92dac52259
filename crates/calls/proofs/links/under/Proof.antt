-- `links::under` meets its contract: it is a link. Assumes nothing.
use mathlib.Core.Path.{refl}
use Rattle.state_array.specs.Stored.{link_row}
use Rattle.calls.proofs.links.under.Statement.{statement}
use Rattle.calls.proofs.links.under.Tie as tie

pub under_spec : {M : Type 1} → statement M
under_spec = tie.close (tie.spec (λ c. unfold link_row in refl))
