-- `record_reader::label` meets its contract: the part that is handed out is the definition's `take` of a `drop`, cut at the end of the bytes. Assumes nothing.
use mathlib.Core.Path.{◌≡◌, sym, ap}
use Prim.Native.Nat.{◌+◌, min}
use lib.ListN.{length}
use Rattle.record.specs.Layout.{record_at, labels_at, label_start, label_length}
use Rattle.record.specs.Batch.{Listed}
use Rattle.record_reader.proofs.Reader.{listed_past, label_is}
use Rattle.record_reader.proofs.label.Goals as goal

pub returns-then-nodes-i : goal.returns-then-nodes-i
returns-then-nodes-i c =
    let a = c.args in
    sym (ap (λ (l : Listed). l.body.label) (listed_past a.batch.now a.i (rw (← c.u16_at-nodes.ensures) c.if-nodes-i.true)))

pub returns : goal.returns
returns c =
    let a = c.args in
    let s = a.batch.now in
    let at = record_at a.i in
    let start_is : c.min-start.result ≡ min (labels_at s + label_start s at) (length s) =
    rw (← c.u16_at-2.ensures, ← c.u16_at.ensures, ← c.u16_at-nodes.ensures) c.min-start.ensures in
    let stop_is : c.min-end.result ≡ min (c.min-start.result + label_length s at) (length s) =
    rw (← c.u16_at-3.ensures) c.min-end.ensures in
    label_is s a.i _ _ (rw (← c.u16_at-nodes.ensures) c.if-nodes-i.false) start_is stop_is
