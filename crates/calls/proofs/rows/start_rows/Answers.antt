-- `rows::start_rows` meets its contract: a test for each row. Assumes nothing.
use Rattle.base.proofs.Tests.{call_true}
use Rattle.calls.specs.Rows.{start_rows}
use Rattle.base.proofs.Loops.{rows}
use Rattle.calls.proofs.notes.Verdicts.{verdict_told, verdict_clear}
use Rattle.calls.proofs.rows.Numbers.{start_past}
use Rattle.calls.proofs.rows.start_rows.Goals as goal

pub returns-then-not-layout : goal.returns-then-not-layout
returns-then-not-layout c = verdict_told c.refuse.ensures (unfold start_rows in (search rows))

pub returns-then-not-has_tree_data : goal.returns-then-not-has_tree_data
returns-then-not-has_tree_data c = verdict_told c.refuse-then-not-has_tree_data.ensures (unfold start_rows in (search rows))

pub returns-then-not-is_root_id : goal.returns-then-not-is_root_id
returns-then-not-is_root_id c = verdict_told c.refuse-then-not-is_root_id.ensures (search (start_past, rows))

pub listed_twice-requires : goal.listed_twice-requires
listed_twice-requires c = call_true c.layout.ensures c.if-not-layout.false

pub returns-then-listed_twice : goal.returns-then-listed_twice
returns-then-listed_twice c = verdict_told c.refuse-then-listed_twice.ensures (search (start_past, rows))

pub returns : goal.returns
returns c = verdict_clear _ (search (start_past, rows))
