-- `record_layout::finite_at` meets its contract. Assumes nothing.
use Rattle.base.proofs.Floats.{float_finite}
use Rattle.record_layout.proofs.finite_at.Goals as goal

pub returns : goal.returns
returns c = float_finite (record { is = c.u64_at.ensures; fits = c.u64_at.type_inv; tested = c.finite_bits.ensures })
