-- `record_wire::finite_bits` meets its contract: a pattern whose exponent field is not all ones is a finite number's. Assumes nothing.
use mathlib.Core.Path.{sym}
use lib.Ieee.{binary64}
use Rattle.base.proofs.Floats.{bits_finite}
use Rattle.record_wire.proofs.finite_bits.Statement.{statement}
use Rattle.record_wire.proofs.finite_bits.Tie as tie

pub finite_bits_spec : {M : Type 1} → statement M
finite_bits_spec = tie.close (tie.spec (λ c. sym (bits_finite binary64 c.args.bits)))
