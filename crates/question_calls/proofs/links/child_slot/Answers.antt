-- `links::child_slot` meets its contract: past the last child, and a child. Assumes nothing.
use Rattle.question_calls.proofs.links.Siblings.{kid_past, kid_at}
use Rattle.question_calls.proofs.links.child_slot.Goals as goal

pub returns-then-child_count-k : goal.returns-then-child_count-k
returns-then-child_count-k c = λ sound there.
    kid_past _ sound _ there _ (c.child_count.ensures sound there) _ _ c.if-child_count-k.true c.slots.ensures

pub returns : goal.returns
returns c = λ sound there.
    kid_at _ sound _ there _ (c.child_count.ensures sound there) _ _ _ c.if-child_count-k.false
    (c.child_id.ensures sound there) c.slot_near.ensures
