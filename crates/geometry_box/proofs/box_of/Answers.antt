-- `geometry_box::box_of` meets its contract: none where the test of the corners fails. Assumes nothing.
use Rattle.geometry_box.specs.Boxes.{box_of}
use Rattle.geometry_box.proofs.box_of.Goals as goal

pub returns-then-are_finite : goal.returns-then-are_finite
unfolding box_of
returns-then-are_finite c =
    rw (← c.apply-p.ensures, ← c.apply-q.ensures, ← c.apply-u.ensures, ← c.apply-v.ensures, ← c.are_finite.ensures, c.if-are_finite.true) c.box_of_points.ensures

pub returns : goal.returns
unfolding box_of
returns c =
    rw (← c.apply-p.ensures, ← c.apply-q.ensures, ← c.apply-u.ensures, ← c.apply-v.ensures, ← c.are_finite.ensures, c.if-are_finite.false)
