-- `shown::deepest_child` meets its contract: the deepest from the node is the deepest from here, or the node here. The measure is how
-- many levels are left. Assumes nothing.
use Rattle.questions.specs.Filters.{filter_of}
use Rattle.question_calls.proofs.shown.Shown.{deepest_nothing, deepest_start, deepest_end, deepest_on_lem, deepest_less}
use Rattle.question_calls.proofs.shown.deepest_child.Goals as goal

pub returns-then-n-deepest : goal.returns-then-n-deepest
returns-then-n-deepest c = λ sound there.
    let n = c.slots-n.ensures in
    deepest_nothing _ _ sound (filter_of _ _) _ _ _ (c.filtered_child-deepest.ensures.of_slot sound there) (rw n at c.if-n-deepest.true) n

pub loop-filter-init : goal.loop-filter-init
loop-filter-init c =
    let n = c.slots-n.ensures in
    let l = rw n at c.if-n-deepest.false in (
      n,
      l,
      c.filtered_child-deepest.ensures.included,
      λ sound there. deepest_start _ _ sound (filter_of _ _) _ _ there (c.filtered_child-deepest.ensures.of_slot sound there) l,
    )

pub filtered_child-next-requires : goal.filtered_child-next-requires
filtered_child-next-requires c = let pre = c.requires in record { sound = pre; knows = c.known_included-known.ensures _ c.loop-filter.invariant.2 }

pub returns-then-n-next : goal.returns-then-n-next
returns-then-n-next c = λ sound there.
    let l = c.loop-filter in
    deepest_end _ _ sound (filter_of _ _) l.deepest _ l.invariant.1 (c.filtered_child-next.ensures.of_slot sound l.invariant.1) _ (l.invariant.3 sound there)
    (rw l.invariant.0 at c.if-n-next.true)

pub loop-filter-smaller : goal.loop-filter-smaller
loop-filter-smaller c =
    let l = c.loop-filter in
    let sound = c.requires in
    deepest_less _ _ sound (filter_of _ _) l.deepest _ l.invariant.1 (c.filtered_child-next.ensures.of_slot sound l.invariant.1) (rw l.invariant.0 at c.if-n-next.false)

pub loop-filter-preserved : goal.loop-filter-preserved
loop-filter-preserved c =
    let l = c.loop-filter in
    let next = rw l.invariant.0 at c.if-n-next.false in (
      l.invariant.0,
      next,
      c.filtered_child-next.ensures.included,
      λ sound there.
          deepest_on_lem _ _ sound (filter_of _ _) l.deepest _ l.invariant.1 (c.filtered_child-next.ensures.of_slot sound l.invariant.1) _ (l.invariant.3 sound there) next,
    )
