-- `calls::update` meets its contract: a law for each way out. Assumes nothing.
use Rattle.calls.proofs.notes.Verdicts.{verdict_is, verdict_some, verdict_zero}
use mathlib.Core.Path.{sym, ap, ◌∙◌}
use Rattle.calls.specs.declared.notes.Refusal.{Refusal}
use Rattle.calls.proofs.answers.Updates.{first_refused}
use Rattle.calls.proofs.update.Goals as goal

pub returns-in-Err : goal.returns-in-Err
returns-in-Err c =
    let is = verdict_is _ c.first_rows.ensures c.in-Err.is in
    first_refused _ _ _ _ is (λ z. verdict_some _ c.first_rows.ensures c.in-Err.is (sym (ap (λ (k : Refusal). k.number) is) ∙ z)) _ c.refused.ensures

pub updated-requires : goal.updated-requires
updated-requires c = verdict_zero _ c.first_rows.ensures c.in_default.is
