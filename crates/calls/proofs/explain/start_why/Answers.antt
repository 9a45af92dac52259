-- `explain::start_why` meets its contract. Assumes nothing.
use native.Mathlib.Omega.{arith}
use mathlib.Core.Path.{refl}
use Rattle.calls.proofs.notes.Verdicts.{verdict_fails, verdict_passes}
use Rattle.calls.proofs.explain.Calls.{first_start_explains}
use Rattle.calls.proofs.explain.start_why.Goals as goal

pub returns-then-is_err : goal.returns-then-is_err
returns-then-is_err c =
    first_start_explains _ (λ i. omega (arith, c.type_inv.batch i)) refl (verdict_fails _ c.start_rows.ensures c.is_err.ensures.value c.if-is_err.true)
    c.first_start_why.ensures c.clear.ensures

pub later_start_why-requires : goal.later_start_why-requires
later_start_why-requires c = record {
  batch_value = verdict_passes _ c.start_rows.ensures c.is_err.ensures.value c.if-is_err.false;
  memory_value = c.requires;
  way_value = c.clear.ensures;
}
