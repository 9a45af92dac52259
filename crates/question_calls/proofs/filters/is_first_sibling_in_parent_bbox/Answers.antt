-- `filters::is_first_sibling_in_parent_bbox` meets its contract: no sibling, or its box. Assumes nothing.
use mathlib.Core.Path.{◌∙◌, ap}
use Rattle.geometry_box.specs.Boxes.{meet}
use Rattle.question_calls.proofs.filters.Clipped.{nearest_none, nearest_some}
use Rattle.question_calls.proofs.filters.is_first_sibling_in_parent_bbox.Goals as goal

pub returns-then-slots-sibling : goal.returns-then-slots-sibling
returns-then-slots-sibling c = λ sound there.
    nearest_none _ _ _ _ _ _ _ (c.neighbour-sibling.ensures sound there) (rw c.slots.ensures at c.if-slots-sibling.true)

pub returns : goal.returns
returns c = λ sound there.
    let l = rw c.slots.ensures at c.if-slots-sibling.false in
    c.do_meet.ensures
    ∙ ap (λ b. meet b c.args.bbox) (c.bounding_box.ensures sound l)
    ∙ nearest_some _ _ _ _ _ _ _ (c.neighbour-sibling.ensures sound there) l
