-- `record_reader::child_entry` meets its contract: the entry that is read is the list's element. Assumes nothing.
use mathlib.Core.Path.{◌≡◌, sym, ap, ◌∙◌}
use Rattle.base.specs.Bytes.{le}
use Rattle.ids.specs.declared.NodeId.{NodeId}
use Rattle.record.specs.Layout.{entry_at}
use Rattle.record_reader.proofs.Reader.{entry_here, entry_past}
use Rattle.record_reader.proofs.child_entry.Goals as goal

pub returns-then-u16_at-j : goal.returns-then-u16_at-j
returns-then-u16_at-j c = sym (entry_past _ _ (rw (← c.u16_at.ensures) c.if-u16_at-j.true))

pub returns : goal.returns
returns c =
    let a = c.args in
    let entry : c.u64_at.result ≡ le 8 a.batch.now (entry_at a.batch.now a.j) = rw (← c.u16_at-2.ensures) c.u64_at.ensures in
    ap {B = NodeId} (λ n. record { 0 = n }) entry ∙ sym (entry_here _ _ (rw (← c.u16_at.ensures) c.if-u16_at-j.false))
