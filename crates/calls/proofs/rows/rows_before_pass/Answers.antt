-- `rows::rows_before_pass` meets its contract: a test for each row. Assumes nothing.
use Rattle.update.specs.Numbers.{rows_before_pass}
use Rattle.calls.specs.Parts.{ungrafted, missing, full}
use Rattle.base.proofs.Loops.{rows}
use Rattle.calls.proofs.notes.Verdicts.{verdict_told, verdict_clear}
use Rattle.calls.proofs.rows.rows_before_pass.Goals as goal

pub returns-then-listed_twice : goal.returns-then-listed_twice
returns-then-listed_twice c = verdict_told c.refuse.ensures (unfold rows_before_pass ungrafted missing full in (search rows))

pub returns-then-is_ungrafted : goal.returns-then-is_ungrafted
returns-then-is_ungrafted c = verdict_told c.refuse-then-is_ungrafted.ensures (unfold rows_before_pass ungrafted missing full in (search rows))

pub returns-then-is_missing : goal.returns-then-is_missing
returns-then-is_missing c = verdict_told c.refuse-then-is_missing.ensures (unfold rows_before_pass ungrafted missing full in (search rows))

pub returns-then-is_full : goal.returns-then-is_full
returns-then-is_full c = verdict_told c.refuse-then-is_full.ensures (unfold rows_before_pass ungrafted missing full in (search rows))

pub returns : goal.returns
returns c = verdict_clear _ (unfold rows_before_pass ungrafted missing full in (search rows))
