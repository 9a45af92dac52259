-- From where a walk stands to the first node that a filter lists, by what the filter says of the node in the slot. Assumes nothing.
use mathlib.Core.Bool.{true, false, true≢false}
use Rattle.base.specs.Tests.{head_of}
use mathlib.Core.List.{List, [], ◌∷◌, flat_map}
use Rattle.std.specs.Prelude.{Option, None, Some}
use mathlib.Core.Path.{◌≡◌, refl, sym, ap, ◌∙◌}
use Prim.Native.Nat.{ℕ, ◌≤◌, ◌<◌}
use Rattle.ids.specs.declared.FullNodeId.{FullNodeId}
use Rattle.state.specs.State.{Forest, present}
use Rattle.state_array.specs.View.{id_in, slots_of, view}
use Rattle.questions.specs.declared.Side.{Side}
use Rattle.questions.specs.declared.FilterResult.{FilterResult}
use Rattle.questions.specs.declared.FilterResult.TheVariants.{Include, ExcludeNode, ExcludeSubtree}
use Rattle.questions.specs.Walks.{shown}
use Rattle.questions.specs.Ahead.{ahead}
use Rattle.questions.proofs.Shown.{list_include, list_node, list_subtree, mass, mass_into, mass_past}
use Rattle.question_calls.specs.Slots.{Sound, slot_id}
use Rattle.question_calls.proofs.links.Slots.{slot_id_some, slot_id_none, slot_shape, slot_present}
use Rattle.question_calls.specs.declared.steps.Place.{Place}
use Rattle.question_calls.specs.Places.{met_from}
use Rattle.question_calls.proofs.steps.Steps.{met_at, met_end}
use Rattle.question_calls.specs.Plain.{is_include, unlisted, listed_from, Lists}
use Rattle.question_calls.proofs.plain.Above.{include_is}

module _ (filter : FullNodeId → FilterResult) (side : Side) (s : List ℕ) where
  abbrev f : Forest
  f = (view s).forest

  -- the node that a walk is at is the first that it lists
  pub head_listed : (r : Place) → head_of (listed_from filter side s r) ≡ slot_id s r.slot
  unfolding listed_from
  head_listed r = go (slot_id s r.slot)
    where
      go : (o : Option FullNodeId)
          → head_of (elim o as (λ _. List FullNodeId) [ None ↦ [] | Some x ↦ x ∷ flat_map (shown filter side f) (ahead side f r.level x) ]) ≡ o
      go None = refl
      go (Some x) = refl

  pub listed_head : (at r : Place) (xs : List FullNodeId) → met_from side s at ≡ xs → Lists filter side s at r
      → slot_id s r.slot ≡ head_of (flat_map (shown filter side f) xs)
  listed_head at r xs e l = sym (head_listed r) ∙ ap head_of (sym l ∙ ap (flat_map (shown filter side f)) e)

  module _ (at : Place) where
    -- at the end
    pub listed_end : slots_of s ≤ at.slot → Lists filter side s at at
    unfolding listed_from flat_map
    listed_end past = ap (flat_map (shown filter side f)) (met_end side s at.slot at.level past) ∙ sym (rw (slot_id_none s at.slot past, listed_from) refl)

    module _ (h : Sound s) (there : at.slot < slots_of s) (r : FilterResult) (is : r ≡ filter (id_in s at.slot)) where
      abbrev x : FullNodeId
      x = id_in s at.slot

      shown_here : present f.nodes x ≡ true
      shown_here = slot_present s h at.slot there

      met : met_from side s at ≡ x ∷ ahead side f at.level x
      met = met_at side s at.slot at.level there

      -- at a node that is listed
      pub listed_here : is_include r ≡ true → Lists filter side s at at
      unfolding listed_from
      listed_here e =
          ap (flat_map (shown filter side f)) met
          ∙ list_include filter side f (slot_shape s h) x shown_here (ahead side f at.level x) (sym is ∙ include_is r e)
          ∙ sym (rw (slot_id_some s at.slot there, listed_from) refl)

      -- on from a node that is not
      module _ (next : Place) (on : met_from side s next ≡ unlisted side f at.level x r) (e : is_include r ≡ false) where
        pub listed_on : flat_map (shown filter side f) (met_from side s next) ≡ flat_map (shown filter side f) (met_from side s at)
        unfolding unlisted is_include
        listed_on = ap (flat_map (shown filter side f)) on ∙ go r is e ∙ ap (flat_map (shown filter side f)) (sym met)
          where
            go : (r : FilterResult) → r ≡ filter x → is_include r ≡ false
                → flat_map (shown filter side f) (unlisted side f at.level x r) ≡ flat_map (shown filter side f) (x ∷ ahead side f at.level x)
            go Include q e = absurd (true≢false e)
            go ExcludeNode q e = sym (list_node filter side f (slot_shape s h) x shown_here (ahead side f at.level x) (sym q))
            go ExcludeSubtree q e = sym (list_subtree filter side f (slot_shape s h) x shown_here (ahead side f at.level x) (sym q))

        -- fewer nodes can still be met
        pub listed_less : mass side f (met_from side s next) < mass side f (met_from side s at)
        unfolding unlisted is_include
        listed_less = rw (on, met) (go r e)
          where
            go : (r : FilterResult) → is_include r ≡ false → mass side f (unlisted side f at.level x r) < mass side f (x ∷ ahead side f at.level x)
            go Include e = absurd (true≢false e)
            go ExcludeNode e = mass_into side f (slot_shape s h) x shown_here (ahead side f at.level x)
            go ExcludeSubtree e = mass_past side f (slot_shape s h) x shown_here (ahead side f at.level x)
