-- `why_outcome::claimed_why` meets its contract. Assumes nothing.
use Rattle.reasons_why.specs.Why.{why_of}
use mathlib.Core.Path.{refl}
use Rattle.calls.proofs.why_outcome.claimed_why.Statement.{statement}
use Rattle.calls.proofs.why_outcome.claimed_why.Tie as tie

pub claimed_why_spec : {M : Type 1} → statement M
claimed_why_spec = tie.close (tie.spec (λ c. unfold why_of in refl))
