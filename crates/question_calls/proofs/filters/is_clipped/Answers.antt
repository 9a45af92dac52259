-- `filters::is_clipped` meets its contract: a law for each way out. Assumes nothing.
use mathlib.Core.Path.{sym, ◌∙◌}
use Rattle.base.proofs.Tests.{call_true, call_false}
use Rattle.question_calls.proofs.filters.Clipped.{clipped_none, clipped_open, clipped_inside, clipped_next, clipped_last}
use Rattle.question_calls.proofs.filters.is_clipped.Goals as goal

pub returns-then-slots-p : goal.returns-then-slots-p
returns-then-slots-p c = λ sound there plain.
    let u = c.requires in
    clipped_none _ _ _ u plain _ (c.included_above-above.ensures sound there u.shown) (rw c.slots.ensures at c.if-slots-p.true)

pub returns-then-not-clips_children : goal.returns-then-not-clips_children
returns-then-not-clips_children c = λ sound there plain.
    let u = c.requires in
    let l = rw c.slots.ensures at c.if-slots-p.false in
    clipped_open _ _ _ u plain _ (c.included_above-above.ensures sound there u.shown) l
    (call_false (c.clips_children.ensures sound l) c.if-not-clips_children.true)

pub returns-then-not-are_apart : goal.returns-then-not-are_apart
returns-then-not-are_apart c = λ sound there plain.
    let u = c.requires in
    let l = rw c.slots.ensures at c.if-slots-p.false in
    clipped_inside _ _ _ u plain _ (c.included_above-above.ensures sound there u.shown) l
    (call_true (c.clips_children.ensures sound l) c.if-not-clips_children.false) _ _ (c.bounding_box.ensures sound there)
    (c.bounding_box-parent_bbox.ensures sound l)
    (call_false c.are_apart.ensures c.if-not-are_apart.true)

pub is_first_sibling_in_parent_bbox-requires : goal.is_first_sibling_in_parent_bbox-requires
is_first_sibling_in_parent_bbox-requires c =
    let u = c.requires in
    u.is_sound

pub returns-then-is_first_sibling_in_parent_bbox : goal.returns-then-is_first_sibling_in_parent_bbox
returns-then-is_first_sibling_in_parent_bbox c = λ sound there plain.
    let u = c.requires in
    let l = rw c.slots.ensures at c.if-slots-p.false in
    clipped_next _ _ _ u plain _ (c.included_above-above.ensures sound there u.shown) l
    (call_true (c.clips_children.ensures sound l) c.if-not-clips_children.false) _ _ (c.bounding_box.ensures sound there)
    (c.bounding_box-parent_bbox.ensures sound l)
    (call_true c.are_apart.ensures c.if-not-are_apart.false)
    (sym (c.is_first_sibling_in_parent_bbox.ensures sound there) ∙ c.if-is_first_sibling_in_parent_bbox.true)

pub is_first_sibling_in_parent_bbox-requires-2 : goal.is_first_sibling_in_parent_bbox-requires-2
is_first_sibling_in_parent_bbox-requires-2 c =
    let u = c.requires in
    u.is_sound

pub returns : goal.returns
returns c = λ sound there plain.
    let u = c.requires in
    let l = rw c.slots.ensures at c.if-slots-p.false in
    clipped_last _ _ _ u plain _ (c.included_above-above.ensures sound there u.shown) l
    (call_true (c.clips_children.ensures sound l) c.if-not-clips_children.false) _ _ (c.bounding_box.ensures sound there)
    (c.bounding_box-parent_bbox.ensures sound l) _
    (call_true c.are_apart.ensures c.if-not-are_apart.false)
    (sym (c.is_first_sibling_in_parent_bbox.ensures sound there) ∙ c.if-is_first_sibling_in_parent_bbox.false)
    (c.is_first_sibling_in_parent_bbox-2.ensures sound there)
