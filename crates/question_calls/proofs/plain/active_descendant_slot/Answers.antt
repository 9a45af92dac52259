-- `plain::active_descendant_slot` meets its contract: a node that names none, and one that names another. Assumes nothing.
use Rattle.question_calls.proofs.plain.Focus.{active_none, active_found}
use Rattle.question_calls.proofs.plain.active_descendant_slot.Goals as goal

pub returns-then-word_at-ne1 : goal.returns-then-word_at-ne1
returns-then-word_at-ne1 c = λ sound there. active_none _ sound _ there _ c.word_at.ensures _ c.if-word_at-ne1.true c.slots.ensures

pub returns : goal.returns
returns c = λ sound there.
    active_found _ sound _ there _ c.word_at.ensures _ _ _ c.if-word_at-ne1.false c.id_at-x.ensures
    c.active_descendant_at.ensures c.slot_near.ensures
