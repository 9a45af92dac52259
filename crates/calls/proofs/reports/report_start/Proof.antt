-- `reports::report_start` meets its contract. Assumes nothing.
use mathlib.Core.Path.{refl}
use Rattle.calls.proofs.reports.report_start.Statement.{statement}
use Rattle.calls.proofs.reports.report_start.Tie as tie

pub report_start_spec : {M : Type 1} → statement M
report_start_spec =
    tie.close (tie.spec (λ c. record { before_is = refl; after_is = refl; extra_before_is = refl; extra_after_is = refl }))
