-- `links::following_slot` meets its contract: a node without a parent, the last child, and another. Assumes nothing.
use native.Mathlib.Omega.{arith}
use Rattle.question_calls.proofs.links.Siblings.{sibling_none, following_none, following_at}
use Rattle.questions.specs.declared.Side.TheVariants.{Following}
use Rattle.question_calls.proofs.links.following_slot.Goals as goal

pub returns-then-n-p : goal.returns-then-n-p
returns-then-n-p c = λ sound there.
    let n = c.slots-n.ensures in
    sibling_none _ sound _ there _ c.link_at-link.ensures _ (c.parent_slot-p.ensures sound there) Following _
    (rw n at c.if-n-p.true) n

pub returns-then-count-index : goal.returns-then-count-index
returns-then-count-index c = λ sound there.
    let n = c.slots-n.ensures in
    let p = rw n at c.if-n-p.false in
    following_none _ sound _ there _ c.link_at-link.ensures _ (c.parent_slot-p.ensures sound there) p _ _
    (c.child_count-count.ensures sound p) (omega arith) n

pub returns-then-count-index-lt2 : goal.returns-then-count-index-lt2
returns-then-count-index-lt2 c = λ sound there.
    let n = c.slots-n.ensures in
    let p = rw n at c.if-n-p.false in
    following_none _ sound _ there _ c.link_at-link.ensures _ (c.parent_slot-p.ensures sound there) p _ _
    (c.child_count-count.ensures sound p) (omega arith) n

pub returns : goal.returns
returns c = λ sound there.
    let n = c.slots-n.ensures in
    let p = rw n at c.if-n-p.false in
    following_at _ sound _ there _ c.link_at-link.ensures _ (c.parent_slot-p.ensures sound there) p _ _ _
    (c.child_count-count.ensures sound p) (omega arith) (c.child_id.ensures sound p) c.slot_near.ensures
