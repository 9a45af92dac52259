-- `links::bounding_box` meets its contract: a node without bounds, and one with bounds. Assumes nothing.
use mathlib.Core.Path.{sym, ◌∙◌}
use Rattle.question_calls.proofs.links.Up.{box_own, box_none}
use Rattle.question_calls.proofs.links.bounding_box.Goals as goal

pub returns-then-word_at-ne1 : goal.returns-then-word_at-ne1
returns-then-word_at-ne1 c = λ sound there. sym (box_none _ sound _ there _ c.word_at.ensures c.if-word_at-ne1.true)

pub returns : goal.returns
returns c = λ sound there.
    c.box_of.ensures
    ∙ rw (c.transform_of.ensures sound there, c.bounds_at.ensures)
    (sym (box_own _ sound _ there _ c.word_at.ensures c.if-word_at-ne1.false))
