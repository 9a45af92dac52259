-- `explain::update_why` meets its contract. Assumes nothing.
use native.Mathlib.Omega.{arith}
use mathlib.Core.Path.{refl}
use Rattle.calls.proofs.notes.Verdicts.{verdict_fails, verdict_passes}
use Rattle.calls.proofs.explain.Calls.{first_explains}
use Rattle.calls.proofs.explain.update_why.Goals as goal

pub returns-then-is_err : goal.returns-then-is_err
returns-then-is_err c =
    first_explains _ (λ i. omega (arith, c.type_inv.batch i)) _ _ refl (verdict_fails _ c.first_rows.ensures c.is_err.ensures.value c.if-is_err.true)
    c.first_why.ensures c.clear.ensures

pub later_why-requires : goal.later_why-requires
later_why-requires c =
    record { batch_value = verdict_passes _ c.first_rows.ensures c.is_err.ensures.value c.if-is_err.false; way_value = c.clear.ensures }
