-- `calls::updated` meets its contract: a law for each way out. Assumes nothing.
use mathlib.Core.Path.{refl, sym, ap, ◌∙◌}
use Rattle.calls.specs.declared.notes.Refusal.{Refusal}
use Rattle.calls.proofs.notes.Verdicts.{verdict_is, verdict_some, verdict_zero}
use Rattle.calls.proofs.rows.Given.{told_update}
use Rattle.calls.proofs.rows.Numbers.{first_passed}
use Rattle.calls.proofs.answers.Updates.{later_pass, later_refused, full_refused, update_accepted}
use Rattle.calls.proofs.reports.Changed.{ascending_next}
use Rattle.calls.proofs.reports.Picked.{lists_noted, report_noted}
use Rattle.calls.proofs.updated.Goals as goal

pub apply-requires : goal.apply-requires
apply-requires c =
    record { told = told_update _ _ _ _ c.requires (c.scope_of-scope.ensures (first_passed _ _ c.requires).formed) refl; next_value = refl }

pub returns-in-Err : goal.returns-in-Err
returns-in-Err c =
    let is = verdict_is _ c.apply.ensures.number c.in-Err.is in
    later_refused _ _ _ _ c.requires (c.scope_of-scope.ensures (first_passed _ _ c.requires).formed) _ is (λ z. verdict_some _ c.apply.ensures.number c.in-Err.is (sym (ap (λ (k : Refusal). k.number) is) ∙ z)) _ c.refused.ensures

pub write_changed-requires : goal.write_changed-requires
write_changed-requires c =
    let w = c.apply.ensures.written (later_pass _ _ _ _ refl (verdict_zero _ c.apply.ensures.number c.in_default.is)) in
    record { told = w.told; next_is = w.shows }

pub returns-in_default-write_lists : goal.returns-in_default-write_lists
returns-in_default-write_lists c =
    full_refused _ _ _ _ c.requires (c.scope_of-scope.ensures (first_passed _ _ c.requires).formed) _ refl (verdict_zero _ c.apply.ensures.number c.in_default.is) _ _ (lists_noted c.write_changed.ensures _ _ _ c.write_lists.ensures) c.in_default-write_lists.is _ c.refused-in_default-write_lists.ensures

pub report_update-report-requires : goal.report_update-report-requires
report_update-report-requires c =
    let given = c.write_changed.ensures in
    record { state_value = given.told.given.kept.ascending; next_value = ascending_next given }

pub returns : goal.returns
returns c =
    let zero = verdict_zero _ c.apply.ensures.number c.in_default.is in
    update_accepted _ _ _ _ c.requires (c.scope_of-scope.ensures (first_passed _ _ c.requires).formed) _ refl zero _ _ (lists_noted c.write_changed.ensures _ _ _ c.write_lists.ensures) c.in-Ok.is _ _
    (c.apply.ensures.written (later_pass _ _ _ _ refl zero))
    _ (report_noted c.write_changed.ensures c.report_update-report.ensures) _ (rw (← c.lengths_of.ensures) c.accepted.ensures)
