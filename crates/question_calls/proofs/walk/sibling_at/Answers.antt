-- `walk::sibling_at` meets its contract: by the list that the walk's numbers mean. Assumes nothing.
use native.Mathlib.Omega.{arith}
use Rattle.question_calls.proofs.walk.Steps.{finds_plain, finds_filtered}
use Rattle.question_calls.proofs.walk.sibling_at.Goals as goal

pub side_of-on-requires : goal.side_of-on-requires
side_of-on-requires c = c.requires.ours.a_side

pub plain_at-requires : goal.plain_at-requires
plain_at-requires c = record { sound = c.requires.sound; i_bound = c.requires.i_bound }

pub returns-then-filter-eq0 : goal.returns-then-filter-eq0
returns-then-filter-eq0 c =
    let pre = c.requires in
    finds_plain _ _ _ _ _ _ _ c.side_of-on.ensures c.if-filter-eq0.true (c.plain_at.ensures pre.sound pre.i_bound)

pub filter_of-requires : goal.filter_of-requires
filter_of-requires c = (omega arith, c.requires.ours.a_filter)

pub shown_at-requires : goal.shown_at-requires
shown_at-requires c = c.requires.sound

pub returns : goal.returns
returns c =
    let pre = c.requires in
    finds_filtered _ _ _ _ _ _ _ c.side_of-on.ensures _ c.filter_of.ensures (c.shown_at.ensures pre.sound pre.i_bound)
