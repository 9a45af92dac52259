-- `links::unlinked` meets its contract: it is no link. Assumes nothing.
use mathlib.Core.Path.{refl}
use Rattle.state_array.specs.Stored.{link_row}
use Rattle.calls.proofs.links.unlinked.Statement.{statement}
use Rattle.calls.proofs.links.unlinked.Tie as tie

pub unlinked_spec : {M : Type 1} → statement M
unlinked_spec = tie.close (tie.spec (λ c. unfold link_row in refl))
