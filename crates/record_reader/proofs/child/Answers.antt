-- `record_reader::child` meets its contract: the entry that is read is the list's element k. Assumes nothing.
use mathlib.Core.Path.{◌≡◌, ap, ◌∙◌}
use Prim.Native.Nat.{◌+◌}
use Rattle.base.specs.Bytes.{le}
use Rattle.ids.specs.declared.NodeId.{NodeId}
use Rattle.record.specs.Layout.{entry_at}
use Rattle.record_reader.specs.Reader.{field_at}
use Rattle.record_reader.proofs.Reader.{child_here, child_past}
use Rattle.record_reader.proofs.child.Goals as goal

pub returns-then-half-k : goal.returns-then-half-k
returns-then-half-k c = child_past _ _ _ (rw (← c.half.ensures) c.if-half-k.true)

pub returns : goal.returns
returns c =
    let a = c.args in
    let s = a.batch.now in
    let entry : c.u64_at.result ≡ le 8 s (entry_at s (field_at 2 s a.i 32 + a.k)) =
    rw (← c.half-first.ensures, ← c.u16_at.ensures) c.u64_at.ensures in
    ap {B = NodeId} (λ n. record { 0 = n }) entry
    ∙ child_here _ _ _ (rw (← c.half.ensures) c.if-half-k.false)
