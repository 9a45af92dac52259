-- `reports::parent_changed` meets its contract: from a parent to none, or to another parent. Assumes nothing.
use mathlib.Core.Path.{refl}
use Rattle.ids.proofs.Ids.{id_test}
use Rattle.calls.proofs.reports.Changed.{parent_lost, parent_changed_is}
use Rattle.calls.proofs.reports.parent_changed.Goals as goal

pub returns-then-next-eq0 : goal.returns-then-next-eq0
returns-then-next-eq0 c = search parent_lost

pub returns : goal.returns
returns c =
    let a = c.args in
    cc (parent_changed_is a.was a.next c.if-next-eq0.false refl, id_test a.was.parent a.next.parent)
