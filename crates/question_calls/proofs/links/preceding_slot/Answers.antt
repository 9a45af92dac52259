-- `links::preceding_slot` meets its contract: a node without a parent, the first child, and another. Assumes nothing.
use mathlib.Core.Path.{◌≡◌}
use Prim.Native.Nat.{◌+◌, ◌-◌}
use native.Mathlib.Omega.{arith}
use Rattle.question_calls.proofs.links.Siblings.{sibling_none, preceding_none, preceding_at}
use Rattle.questions.specs.declared.Side.TheVariants.{Preceding}
use Rattle.question_calls.proofs.links.preceding_slot.Goals as goal

pub returns-then-n-p : goal.returns-then-n-p
returns-then-n-p c = λ sound there.
    let n = c.slots-n.ensures in
    sibling_none _ sound _ there _ c.link_at-link.ensures _ (c.parent_slot-p.ensures sound there) Preceding _
    (rw n at c.if-n-p.true) n

pub returns-then-index-eq0 : goal.returns-then-index-eq0
returns-then-index-eq0 c = λ sound there.
    let n = c.slots-n.ensures in
    preceding_none _ sound _ there _ c.link_at-link.ensures _ (c.parent_slot-p.ensures sound there) (rw n at c.if-n-p.false) _
    c.if-index-eq0.true n

pub returns : goal.returns
returns c = λ sound there.
    let n = c.slots-n.ensures in
    let p = rw n at c.if-n-p.false in
    let index = c.link_at-link.result.index in
    let one_less : index ≡ index - 1 + 1 = omega arith in
    preceding_at _ sound _ there _ c.link_at-link.ensures _ (c.parent_slot-p.ensures sound there) p _ _ _ one_less
    (c.child_id.ensures sound p) c.slot_near.ensures
