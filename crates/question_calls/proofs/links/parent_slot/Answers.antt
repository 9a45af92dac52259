-- `links::parent_slot` meets its contract: a node without a link, and one whose parent is found. Assumes nothing.
use Rattle.question_calls.proofs.links.Links.{parent_none, parent_some}
use Rattle.question_calls.proofs.links.parent_slot.Goals as goal

pub returns-then-link-eq0 : goal.returns-then-link-eq0
returns-then-link-eq0 c = λ sound there.
    parent_none _ sound _ there _ c.link_at-link.ensures _ c.if-link-eq0.true c.slots.ensures

pub returns : goal.returns
returns c = λ sound there.
    parent_some _ sound _ there _ c.link_at-link.ensures _ c.if-link-eq0.false c.slot_hinted.ensures
