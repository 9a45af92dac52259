-- `reports::report_host` meets its contract: with empty lists the answers themselves are the extra ids. Assumes nothing.
use Rattle.update.specs.Reports.{no_changes}
use Rattle.calls.proofs.reports.Picked.{report_is, host_left}
use Rattle.calls.proofs.reports.report_host.Goals as goal

pub returns : goal.returns
returns c =
    let a = c.args in
    λ s s' p q.
    report_is s s' no_changes a.before a.after a.before a.after _ c.report_of.ensures p q (host_left a.before).0
    (host_left a.after).1
