-- `filters::nearest_up` meets its contract: what is told of a node by those above it. Assumes nothing.
use mathlib.Core.Path.{refl, ap}
use native.Mathlib.Omega.{arith}
use lib.ListN.{length}
use Rattle.questions.specs.Filters.{filter_of}
use Rattle.question_calls.proofs.plain.Above.{up_next}
use Rattle.question_calls.proofs.filters.Near.{included_end, near_told, near_here, near_up}
use Rattle.question_calls.proofs.filters.+nearest_up.Goals as goal

pub returns-then-n-i : goal.returns-then-n-i
returns-then-n-i t c =
    let past = rw c.slots-n.ensures at c.if-n-i.true in
    record {
      included_is = included_end (filter_of _ _) _ c.requires _ _ past c.slots-n.ensures;
      nothing = λ _. (refl, refl);
      hidden_is = λ l. absurd (omega arith);
      dropped_is = λ l. absurd (omega arith);
    }

pub nearest_up-above-requires : goal.nearest_up-above-requires
nearest_up-above-requires t c =
    let sound = c.requires in
    let l = rw c.slots-n.ensures at c.if-n-i.false in
    (omega (arith, ap length (up_next _ sound _ _ l (c.parent_slot-p.ensures sound l))), sound)

pub common_filter_told-result-requires : goal.common_filter_told-result-requires
common_filter_told-result-requires t c =
    let sound = c.requires in
    let l = rw c.slots-n.ensures at c.if-n-i.false in
    near_told _ _ _ sound _ l _ (c.parent_slot-p.ensures sound l) _ c.nearest_up-above.ensures _ (c.hidden_at.ensures sound l)

pub returns-then-is_kept : goal.returns-then-is_kept
returns-then-is_kept t c =
    let sound = c.requires in
    let l = rw c.slots-n.ensures at c.if-n-i.false in
    near_here _ _ _ sound _ l _ (c.parent_slot-p.ensures sound l) _ c.nearest_up-above.ensures _ (c.hidden_at.ensures sound l)
    _ c.common_filter_told-result.ensures _ c.is_exclude_subtree-dropped.ensures _ c.is_kept.ensures c.if-is_kept.true

pub returns : goal.returns
returns t c =
    let sound = c.requires in
    let l = rw c.slots-n.ensures at c.if-n-i.false in
    near_up _ _ _ sound _ l _ (c.parent_slot-p.ensures sound l) _ c.nearest_up-above.ensures _ (c.hidden_at.ensures sound l)
    _ c.common_filter_told-result.ensures _ c.is_exclude_subtree-dropped.ensures _ c.is_kept.ensures c.if-is_kept.false
