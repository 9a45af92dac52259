-- `notes::grafts_old` meets its contract: a slot below n grafts a tree where its flag is set. Assumes nothing.
use mathlib.Core.Path.{ap, ap₂, ◌∙◌}
use lib.Dec.{ltb}
use Rattle.base.specs.Tests.{◌and◌}
use Rattle.base.specs.Bytes.{bit}
use Rattle.calls.proofs.notes.Grafts.{graft_below_some}
use Rattle.calls.proofs.notes.grafts_old.Goals as goal

pub returns : goal.returns
unfolding ◌and◌
returns c =
    let a = c.args in
    ap₂ (λ n t. ltb a.slot n and t) c.slots-n.ensures (c.is_graft.ensures ∙ ap (λ d. bit 8 d.flags) c.shape_at-d.ensures) ∙ graft_below_some a.state.now a.slot
