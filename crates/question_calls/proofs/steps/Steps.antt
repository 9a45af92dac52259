-- Each step of a walk, by the slots that it reads. Assumes nothing.
use mathlib.Core.List.{List, [], ◌∷◌, ◌++◌}
use Rattle.base.specs.Tests.{head_of}
use Rattle.std.specs.Prelude.{None}
use Rattle.std.proofs.lemmas.Option.{none-some}
use mathlib.Core.Path.{◌≡◌, refl, sym, ap, ◌∙◌}
use Prim.Native.Nat.{ℕ, suc, ◌-◌, ◌≤◌, ◌<◌}
use native.Mathlib.Decide.{dec_lt}
use native.Mathlib.Omega.{arith}
use lib.ListN.{length}
use lib.Seq.{take_all}
use borrow.Author.Tests.{lt-ltb, le-ltb}
use Rattle.base.proofs.Bytes.{length_list_of}
use Rattle.ids.specs.declared.FullNodeId.{FullNodeId}
use Rattle.state.specs.State.{parent_at}
use Rattle.state_array.specs.View.{id_in, slots_of, view}
use Rattle.questions.specs.declared.Side.{Side}
use Rattle.questions.specs.Ahead.{ahead}
use Rattle.questions.specs.Links.{child_ids, siblings, ancestors}
use Rattle.questions.specs.Walks.{turned}
use Rattle.questions.proofs.Links.{parent_link, parentless_link, ancestors_few}
use Rattle.questions.proofs.Ahead.{ahead_aside, ahead_into, ahead_up, ahead_end, ahead_top}
use Rattle.question_calls.specs.Slots.{Sound, slot_id}
use Rattle.question_calls.proofs.links.Slots.{slot_id_some, slot_id_none, slot_shape, slot_present}
use Rattle.question_calls.specs.Places.{met_from, one_more}

head_none : {A : Type 0} (xs : List A) → head_of xs ≡ None → xs ≡ []
head_none [] e = refl
head_none (x ∷ xs) e = absurd (none-some x (sym e))

module _ (side : Side) (s : List ℕ) where
  -- a walk at a slot, and at its end
  pub met_at : (i level : ℕ) → i < slots_of s → met_from side s (record { slot = i; level = level }) ≡ id_in s i ∷ ahead side (view s).forest level (id_in s i)
  unfolding met_from
  met_at i level h = rw (slot_id_some s i h, met_from) refl

  pub met_end : (i level : ℕ) → slots_of s ≤ i → met_from side s (record { slot = i; level = level }) ≡ []
  unfolding met_from
  met_end i level h = rw (slot_id_none s i h, met_from) refl

  module _ (sound : Sound s) (i level : ℕ) (there : i < slots_of s) (next : ℕ) where
    -- aside to the next sibling
    pub step_aside : slot_id s next ≡ head_of (siblings side (view s).forest (id_in s i)) → next < slots_of s
        → met_from side s (record { slot = next; level = level }) ≡ ahead side (view s).forest level (id_in s i)
    step_aside e h =
        let y = id_in s next in
        met_at next level h ∙ sym (ahead_aside side (view s).forest (slot_shape s sound) level (id_in s i) y (sym e ∙ slot_id_some s next h)).rest

    no_sibling : slot_id s next ≡ head_of (siblings side (view s).forest (id_in s i)) → slots_of s ≤ next → siblings side (view s).forest (id_in s i) ≡ []
    no_sibling e h = head_none _ (sym e ∙ slot_id_none s next h)

    -- the end, where no level is left
    pub step_end : slot_id s next ≡ head_of (siblings side (view s).forest (id_in s i)) → slots_of s ≤ next → level ≡ 0
        → [] ≡ ahead side (view s).forest level (id_in s i)
    step_end e h z = sym (ap (λ (k : ℕ). ahead side (view s).forest k (id_in s i)) z ∙ ahead_end side (view s).forest (slot_shape s sound) (id_in s i) (no_sibling e h))

    module _ (parent : ℕ) (up : slot_id s parent ≡ parent_at (view s).forest.nodes (id_in s i)) where
      -- or no parent
      pub step_top : slots_of s ≤ parent → [] ≡ ahead side (view s).forest level (id_in s i)
      step_top h =
          sym (ahead_top side (view s).forest (slot_shape s sound) level (id_in s i) (parentless_link _ (id_in s i) (sym up ∙ slot_id_none s parent h)))

      -- up to the parent
      pub step_up : slot_id s next ≡ head_of (siblings side (view s).forest (id_in s i)) → slots_of s ≤ next → 0 < level → parent < slots_of s
          → ahead side (view s).forest (level - 1) (id_in s parent) ≡ ahead side (view s).forest level (id_in s i)
      step_up e h l k =
          let z = parent_link _ (id_in s i) (id_in s parent) (sym up ∙ slot_id_some s parent k) in
          let one : level ≡ suc (level - 1) = omega arith in
          ap (ahead side (view s).forest (level - 1)) (sym z.2)
          ∙ sym (ahead_up side (view s).forest (slot_shape s sound) (level - 1) (id_in s i) z.0 z.1 (no_sibling e h))
          ∙ ap (λ (j : ℕ). ahead side (view s).forest j (id_in s i)) (sym one)

    -- one level more than there can be changes nothing
    level_enough : next < slots_of s → ahead side (view s).forest (one_more level) (id_in s next) ≡ ahead side (view s).forest (suc level) (id_in s next)
    unfolding one_more ahead view
    level_enough h = go (dec_lt level 320)
      where
        few : length (ancestors (view s).forest (id_in s next)) < slots_of s
        few = rw length_list_of at (ancestors_few (view s).forest (slot_shape s sound) (id_in s next) (slot_present s sound next h))

        go : Dec (level < 320) → ahead side (view s).forest (one_more level) (id_in s next) ≡ ahead side (view s).forest (suc level) (id_in s next)
        go (yes l) = rw (lt-ltb level 320 l) refl
        go (no l) =
            let enough : length (ancestors (view s).forest (id_in s next)) ≤ level = omega (arith, few) in
            let more : length (ancestors (view s).forest (id_in s next)) ≤ suc level = omega (arith, few) in
            let past : 320 ≤ level = omega (arith, few) in
            rw (le-ltb level 320 past, take_all level _ enough, take_all (suc level) _ more) refl

    -- down to the first child on this side
    pub step_into : slot_id s next ≡ head_of (turned side (child_ids (view s).forest (id_in s i))) → next < slots_of s
        → met_from side s (record { slot = next; level = one_more level })
        ≡ turned side (child_ids (view s).forest (id_in s i)) ++ ahead side (view s).forest level (id_in s i)
    step_into e h =
        met_at next (one_more level) h
        ∙ ap (λ (ys : List FullNodeId). id_in s next ∷ ys) (level_enough h)
        ∙ sym (ahead_into side (view s).forest (slot_shape s sound) level (id_in s i) (id_in s next) (slot_present s sound i there) (sym e ∙ slot_id_some s next h)).rest

    -- or on, where there is none
    pub step_childless : slot_id s next ≡ head_of (turned side (child_ids (view s).forest (id_in s i))) → slots_of s ≤ next
        → ahead side (view s).forest level (id_in s i) ≡ turned side (child_ids (view s).forest (id_in s i)) ++ ahead side (view s).forest level (id_in s i)
    step_childless e h =
        let childless : turned side (child_ids (view s).forest (id_in s i)) ≡ [] = head_none _ (sym e ∙ slot_id_none s next h) in
        rw childless refl
