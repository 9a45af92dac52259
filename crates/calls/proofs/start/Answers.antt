-- `calls::start` meets its contract: a law for each way out. Assumes nothing.
use Rattle.calls.proofs.notes.Verdicts.{verdict_is, verdict_some, verdict_zero}
use mathlib.Core.Path.{sym, ap, ◌∙◌}
use Rattle.calls.specs.declared.notes.Refusal.{Refusal}
use Rattle.calls.proofs.answers.Starts.{first_refused}
use Rattle.calls.proofs.start.Goals as goal

pub returns-in-Err : goal.returns-in-Err
returns-in-Err c =
    let is = verdict_is _ c.start_rows.ensures c.in-Err.is in
    first_refused _ c.args.host_focused _ c.clear.ensures _ is (λ z. verdict_some _ c.start_rows.ensures c.in-Err.is (sym (ap (λ (k : Refusal). k.number) is) ∙ z)) _ c.refused.ensures

pub started-requires : goal.started-requires
started-requires c = record { batch_value = verdict_zero _ c.start_rows.ensures c.in_default.is; state_value = c.clear.ensures }
