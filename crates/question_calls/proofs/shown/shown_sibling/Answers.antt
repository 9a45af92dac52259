-- `shown::shown_sibling` meets its contract: nothing is ahead, no ancestor is included, the nearest included one has no filtered child, or the list goes on
-- from what is ahead. Assumes nothing.
use mathlib.Core.List.{flat_map}
use mathlib.Core.Path.{sym, ap, ◌∙◌}
use native.Mathlib.Omega.{arith}
use Rattle.questions.specs.Filters.{filter_of}
use Rattle.question_calls.proofs.links.Slots.{slot_id_some}
use Rattle.question_calls.specs.Plain.{up_from}
use Rattle.question_calls.proofs.filters.Near.{first_is}
use Rattle.question_calls.proofs.shown.Shown.{siblings_alone, siblings_orphan, siblings_childless, siblings_listed}
use Rattle.question_calls.proofs.shown.shown_sibling.Goals as goal

pub returns-then-n-next : goal.returns-then-n-next
returns-then-n-next c =
    let n = c.slots-n.ensures in record {
      of_slot = λ sound there.
          siblings_alone _ _ sound (filter_of _ _) _ _ (c.climb-up.ensures sound there) _ _ (c.after-next.ensures sound there) (rw n at c.if-n-next.true)
          (omega (arith, n));
      knows = c.nothing_known.ensures _;
    }

pub returns-then-n-parent : goal.returns-then-n-parent
returns-then-n-parent c =
    let n = c.slots-n.ensures in
    let near = c.nearest-near.ensures in record {
      of_slot = λ sound there.
          siblings_orphan _ _ sound (filter_of _ _) _ _ (c.climb-up.ensures sound there) _ near.included_value _ (rw n at c.if-n-parent.true) (omega (arith, n));
      knows = near.knows;
    }

pub filtered_child-first-requires : goal.filtered_child-first-requires
filtered_child-first-requires c =
    let up = up_from c.args.state.now c.climb-up.result.slot in record { sound = c.requires; knows = c.known_included-told.ensures _ (λ l. first_is (filter_of _ _) up _ (sym c.nearest-near.ensures.included_value ∙ slot_id_some _ _ l)) }

pub returns-then-n-first : goal.returns-then-n-first
returns-then-n-first c =
    let n = c.slots-n.ensures in
    let near = c.nearest-near.ensures in
    let up = rw n at c.if-n-parent.false in record {
      of_slot = λ sound there.
          siblings_childless _ _ sound (filter_of _ _) _ _ (c.climb-up.ensures sound there) _ near.included_value _ up _ (c.filtered_child-first.ensures.of_slot sound up)
          (rw n at c.if-n-first.true) (omega (arith, n));
      knows = near.knows;
    }

pub returns : goal.returns
returns c =
    let n = c.slots-n.ensures in
    let near = c.nearest-near.ensures in
    let up = rw n at c.if-n-parent.false in record {
      of_slot = λ sound there.
          siblings_listed _ _ sound (filter_of _ _) _ _ (c.climb-up.ensures sound there) _ near.included_value _ up _ (c.filtered_child-first.ensures.of_slot sound up)
          (rw n at c.if-n-first.false) (ap (flat_map _) (sym (c.after-next.ensures sound there)) ∙ c.shown_from-place.ensures.lists);
      knows = near.knows;
    }
