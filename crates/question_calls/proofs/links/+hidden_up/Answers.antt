-- `links::hidden_up` meets its contract: one climb. Assumes nothing.
use mathlib.Core.Path.{sym, ◌∙◌}
use Rattle.question_calls.proofs.links.Up.{hidden_own, fewer, hidden_top, hidden_more}
use Rattle.question_calls.proofs.links.+hidden_up.Goals as goal

pub returns-then-hidden_at : goal.returns-then-hidden_at
returns-then-hidden_at t c = λ sound there few.
    sym (hidden_own _ sound _ there (sym (c.hidden_at.ensures sound there) ∙ c.if-hidden_at.true))

pub returns-then-slots-p : goal.returns-then-slots-p
returns-then-slots-p t c = λ sound there few.
    sym
    (hidden_top _ sound _ there _ (c.parent_slot-p.ensures sound there) (rw c.slots.ensures at c.if-slots-p.true)
    (sym (c.hidden_at.ensures sound there) ∙ c.if-hidden_at.false))

pub returns : goal.returns
returns t c = λ sound there few.
    let up = c.parent_slot-p.ensures sound there in
    let p = rw c.slots.ensures at c.if-slots-p.false in
    c.hidden_up.ensures sound p (fewer _ sound _ there _ up _ p few)
    ∙ sym (hidden_more _ sound _ there _ up p (sym (c.hidden_at.ensures sound there) ∙ c.if-hidden_at.false))
