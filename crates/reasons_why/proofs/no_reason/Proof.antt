-- `reasons_why::no_reason` meets its contract. Assumes nothing.
use mathlib.Core.Path.{refl}
use Rattle.reasons_why.specs.Why.{why_of}
use Rattle.reasons_why.proofs.no_reason.Statement.{statement}
use Rattle.reasons_why.proofs.no_reason.Tie as tie

returns : tie.Need-returns
unfolding why_of
returns c = refl

pub no_reason_spec : {M : Type 1} → statement M
no_reason_spec = tie.close (tie.spec returns)
