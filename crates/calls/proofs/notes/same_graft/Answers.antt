-- `notes::same_graft` meets its contract: none on both sides, or one tree on both. Assumes nothing.
use mathlib.Core.Bool.{not}
use mathlib.Core.Path.{ap, ap₂, ◌∙◌}
use Rattle.base.specs.Tests.{◌and◌}
use Rattle.base.proofs.Tests.{call_false, call_true}
use Rattle.ids.specs.Ids.{same_tree}
use Rattle.ids.proofs.Ids.{tree_test}
use Rattle.calls.proofs.notes.Grafts.{same_graft_none, same_graft_some}
use Rattle.calls.proofs.notes.same_graft.Goals as goal

pub returns-then-not-grafts_new : goal.returns-then-not-grafts_new
returns-then-not-grafts_new c =
    let a = c.args in
    ap not c.grafts_old-old.ensures
    ∙ same_graft_none _ a.state.now a.slot (call_false c.grafts_new.ensures c.if-not-grafts_new.true)

pub returns : goal.returns
unfolding ◌and◌
returns c =
    let a = c.args in
    ap₂ ◌and◌ c.grafts_old-old.ensures
    (c.eq.ensures ∙ tree_test _ _ ∙ ap₂ same_tree c.graft.ensures (ap (λ d. d.graft) c.shape_at-d.ensures))
    ∙ same_graft_some _ a.state.now a.slot (call_true c.grafts_new.ensures c.if-not-grafts_new.false)
