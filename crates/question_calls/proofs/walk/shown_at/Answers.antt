-- `walk::shown_at` meets its contract: the node at a place of the list. Assumes nothing.
use Rattle.question_calls.proofs.walk.Steps.{slot_nothing, slot_found, listed_place}
use Rattle.question_calls.proofs.walk.shown_at.Goals as goal

pub returns-then-slots-slot : goal.returns-then-slots-slot
returns-then-slots-slot c = λ sound there.
    rw (← c.focused_slot-focused.ensures sound)
    (slot_nothing _ _ _ _ c.slots.ensures c.if-slots-slot.true
    (listed_place _ _ _ _ _ c.listed_at-slot.ensures (c.shown_sibling-start.ensures.of_slot sound there)))

pub returns : goal.returns
returns c = λ sound there.
    rw (← c.focused_slot-focused.ensures sound)
    (slot_found _ _ _ _ _ c.slots.ensures c.if-slots-slot.false c.id_at.ensures
    (listed_place _ _ _ _ _ c.listed_at-slot.ensures (c.shown_sibling-start.ensures.of_slot sound there)))
