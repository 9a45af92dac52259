-- `calls::started` meets its contract: a law for each way out. Assumes nothing.
use Rattle.std.specs.Prelude.{Option}
use mathlib.Core.Path.{refl, sym, ap, ◌∙◌, subst}
use Rattle.ids.specs.declared.FullNodeId.{FullNodeId}
use Rattle.calls.specs.Reported.{OnlyAfter}
use Rattle.state.specs.State.{State}
use Rattle.calls.specs.declared.notes.Refusal.{Refusal}
use Rattle.calls.proofs.notes.Verdicts.{verdict_is, verdict_some, verdict_zero}
use Rattle.calls.proofs.rows.Given.{told_start}
use Rattle.calls.proofs.answers.Updates.{later_pass}
use Rattle.calls.proofs.answers.Starts.{seed_forest, later_refused, start_accepted_lem}
use Rattle.calls.proofs.started.Goals as goal

pub apply-requires : goal.apply-requires
apply-requires c =
    record { told = told_start _ _ _ _ c.requires.batch_value (ap (λ (q : State). q.forest) c.seed.ensures ∙ seed_forest _ _) (c.start_scope-scope.ensures c.requires.batch_value) refl; next_value = refl }

pub returns-in-Err : goal.returns-in-Err
returns-in-Err c =
    let is = verdict_is _ c.apply.ensures.number c.in-Err.is in
    later_refused _ _ _ _ c.requires.batch_value c.seed.ensures (c.start_scope-scope.ensures c.requires.batch_value) _ is (λ z. verdict_some _ c.apply.ensures.number c.in-Err.is (sym (ap (λ (k : Refusal). k.number) is) ∙ z)) _ c.clear.ensures _ c.refused.ensures

pub returns : goal.returns
returns c =
    let zero = verdict_zero _ c.apply.ensures.number c.in_default.is in
    start_accepted_lem _ _ _ _ c.requires.batch_value c.seed.ensures (c.start_scope-scope.ensures c.requires.batch_value) _ refl zero _ _
    (c.apply.ensures.written (later_pass _ _ _ _ refl zero)) _
    (subst (λ (o : Option FullNodeId). OnlyAfter o c.report_start.result) c.focus.ensures c.report_start.ensures) _
    (rw (← c.no_lengths.ensures) c.accepted.ensures)
