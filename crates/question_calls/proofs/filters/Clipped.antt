-- The clip test, by slots: a law for each way out of the code. Assumes nothing.
use mathlib.Core.Bool.{Bool, true, false, not, ◌||◌}
use mathlib.Core.List.{List}
use Rattle.std.specs.Prelude.{Some}
use mathlib.Core.Path.{◌≡◌, refl, sym, ◌∙◌}
use Prim.Native.Nat.{ℕ, ◌/◌, ◌%◌, ◌≤◌, ◌<◌}
use lib.Dec.{eqb}
use Rattle.base.specs.Tests.{◌and◌, head_of}
use Rattle.ids.specs.declared.FullNodeId.{FullNodeId}
use Rattle.geometry_box.specs.declared.BoundingBox.{BoundingBox}
use Rattle.geometry_box.specs.Boxes.{apart, meet}
use Rattle.state_array.specs.Layout.{word, FLAGS}
use Rattle.state_array.specs.View.{id_in, shape_in, body_in, node_in, slots_of, view}
use Rattle.questions.specs.declared.Side.{Side}
use Rattle.questions.specs.declared.Side.TheVariants.{Following, Preceding}
use Rattle.questions.specs.Boxes.{bounding_box}
use Rattle.questions.specs.Walks.{filtered_parent}
use Rattle.questions.specs.Filters.{Seen, is_transparent, clips_at, without_parent_checks, neighbour_inside, clipped_by, is_clipped}
use Rattle.question_calls.specs.Slots.{Sound, slot_id}
use Rattle.question_calls.proofs.links.Slots.{slot_id_some, slot_id_none, slot_shape, slot_found, slot_present}
use Rattle.question_calls.specs.declared.steps.Place.{Place}
use Rattle.question_calls.specs.Plain.{seen_at, shown_ahead, Above}
use Rattle.question_calls.proofs.plain.Neighbours.{siblings_ahead}
use Rattle.question_calls.specs.Filters.{Unhidden, nearest_inside}

-- the flag of the slot
pub clips_at_lem : (s : List ℕ) → Sound s → (i : ℕ) → i < slots_of s → (w : ℕ) → w ≡ word s FLAGS i → eqb (w / 2 % 2) 1 ≡ clips_at (view s).forest (id_in s i)
unfolding clips_at node_in body_in shape_in
clips_at_lem s h i there w read = sym (rw (slot_found s h i there, clips_at, ← read) refl)

-- ## The nearest sibling

module _ (s : List ℕ) (k : ℕ) (side : Side) (level : ℕ) (x : FullNodeId) (outer : BoundingBox) (r : ℕ)
    (found : slot_id s r ≡ head_of (shown_ahead (seen_at s k) side level x)) where
  pub nearest_none : slots_of s ≤ r → false ≡ nearest_inside (seen_at s k) side level x outer
  unfolding nearest_inside
  nearest_none past = sym (rw (← found, slot_id_none s r past, nearest_inside) refl)

  pub nearest_some : r < slots_of s → meet (bounding_box (view s).forest (id_in s r)) outer ≡ nearest_inside (seen_at s k) side level x outer
  unfolding nearest_inside
  nearest_some there = sym (rw (← found, slot_id_some s r there, nearest_inside) refl)

-- ## The test

module _ (s : List ℕ) (k i : ℕ) (u : Unhidden s i) (plain : is_transparent (view s).forest (id_in s i) ≡ false) (above : Place)
    (is : Above (without_parent_checks (seen_at s k)) s (id_in s i) above) where
  abbrev v : Seen
  v = seen_at s k

  abbrev x : FullNodeId
  x = id_in s i

  abbrev p : FullNodeId
  p = id_in s above.slot

  -- no filtered parent
  pub clipped_none : slots_of s ≤ above.slot → false ≡ is_clipped v x
  unfolding is_clipped
  clipped_none past = sym (rw (← is.parent_is, slot_id_none s above.slot past, is_clipped) refl)

  module _ (there : above.slot < slots_of s) where
    parent : filtered_parent (without_parent_checks v) v.forest x ≡ Some p
    parent = sym is.parent_is ∙ slot_id_some s above.slot there

    -- the neighbours, by what is ahead
    neighbours : (side : Side) → neighbour_inside side v p x ≡ nearest_inside v side above.level x (bounding_box v.forest p)
    unfolding neighbour_inside nearest_inside
    neighbours side =
        let same = siblings_ahead v (slot_shape s u.is_sound) x p (slot_present s u.is_sound i u.within) u.shown plain parent side in
        rw (same, neighbour_inside, is.levels) refl

    abbrev test : Bool → BoundingBox → Bool
    test lies outer = clips_at v.forest p and lies and not (nearest_inside v Following above.level x outer || nearest_inside v Preceding above.level x outer)

    tests : is_clipped v x ≡ test (apart (bounding_box v.forest x) (bounding_box v.forest p)) (bounding_box v.forest p)
    unfolding is_clipped clipped_by
    tests = rw (parent, is_clipped, neighbours Following, neighbours Preceding) refl

    -- it does not clip
    pub clipped_open : clips_at v.forest p ≡ false → false ≡ is_clipped v x
    unfolding ◌and◌
    clipped_open a = sym (tests ∙ rw a refl)

    module _ (a : clips_at v.forest p ≡ true) (own outer : BoundingBox) (o : own ≡ bounding_box v.forest x) (q : outer ≡ bounding_box v.forest p) where
      by_boxes : is_clipped v x ≡ test (apart own outer) outer
      by_boxes = tests ∙ rw (o, q) refl

      -- the node is not outside
      pub clipped_inside : apart own outer ≡ false → false ≡ is_clipped v x
      unfolding ◌and◌
      clipped_inside b = sym (by_boxes ∙ rw (a, b) refl)

      -- nor is the next neighbour, or the one before
      pub clipped_next : apart own outer ≡ true → nearest_inside v Following above.level x outer ≡ true → false ≡ is_clipped v x
      unfolding ◌and◌
      clipped_next b c = sym (by_boxes ∙ rw (a, b, c) refl)

      pub clipped_last : (d : Bool) → apart own outer ≡ true → nearest_inside v Following above.level x outer ≡ false
          → d ≡ nearest_inside v Preceding above.level x outer → not d ≡ is_clipped v x
      unfolding ◌and◌
      clipped_last d b c e = sym (by_boxes ∙ rw (a, b, c, ← e) refl)
