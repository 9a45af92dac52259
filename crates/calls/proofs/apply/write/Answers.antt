-- `apply::write` meets its contract: phase after phase. Assumes nothing.
use native.Mathlib.Omega.{arith}
use Rattle.calls.proofs.apply.Applied.{written_is}
use Rattle.calls.proofs.apply.write.Goals as goal

pub returns : goal.returns
returns c =
    written_is _ _ _ _ _ c.write_plan.ensures (λ k. omega (arith, c.type_inv.batch k)) c.write_outcome.ensures
