-- `record_layout::zero_at` meets its contract. Assumes nothing.
use mathlib.Core.Path.{refl}
use Rattle.base.proofs.Floats.{float_zero}
use Rattle.record_layout.proofs.zero_at.Goals as goal

pub returns : goal.returns
returns c = float_zero (record { is = c.u64_at.ensures; fits = c.u64_at.type_inv; tested = refl })
