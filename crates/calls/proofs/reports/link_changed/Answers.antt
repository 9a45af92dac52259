-- `reports::link_changed` meets its contract: a link to no parent is no change, and any other is one where the place or the parent differs. Assumes nothing.
use mathlib.Core.Path.{refl}
use Rattle.ids.proofs.Ids.{id_test}
use Rattle.calls.proofs.reports.Changed.{unlinked_unchanged, link_changed_is}
use Rattle.calls.proofs.reports.link_changed.Goals as goal

pub returns-then-next-eq0 : goal.returns-then-next-eq0
returns-then-next-eq0 c = search unlinked_unchanged

pub returns : goal.returns
returns c =
    let a = c.args in
    cc (link_changed_is a.was a.next c.if-next-eq0.false refl, id_test a.was.parent a.next.parent)
