-- `filters::common_filter_knowing` meets its contract: it asks no parent, or what is told of the node is so. Assumes nothing.
use native.Mathlib.Omega.{arith}
use Rattle.question_calls.proofs.filters.common_filter_knowing.Goals as goal

pub returns-then-slots-i : goal.returns-then-slots-i
returns-then-slots-i c = λ sound there. absurd (omega (arith, c.slots.ensures))

pub returns-then-is_transparent-hidden_at : goal.returns-then-is_transparent-hidden_at
returns-then-is_transparent-hidden_at c = c.common_filter_or_hidden.ensures

pub common_filter_told-requires : goal.common_filter_told-requires
common_filter_told-requires c =
    let sound = c.requires.sound in
    let l = rw c.slots.ensures at c.if-slots-i.false in
    record {
      is_sound = sound;
      within = l;
      hidden_is = c.is_hidden-hidden.ensures sound l;
      dropped_is = c.is_parent_dropped-dropped.ensures sound l;
    }

pub returns : goal.returns
returns c = λ sound there. c.common_filter_told.ensures
