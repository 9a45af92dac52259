-- What is listed under a filter, from the place of its first node: of children, of siblings, the deepest child. Assumes nothing.
use mathlib.Core.Bool.{Bool, true, false}
use mathlib.Core.List.{List, [], ◌∷◌, flat_map}
use Rattle.std.proofs.lemmas.Option.{none-some}
use mathlib.Core.Path.{◌≡◌, refl, sym, ap, ◌∙◌}
use Prim.Native.Nat.{ℕ, suc, ◌-◌, ◌≤◌, ◌<◌}
use native.Mathlib.Decide.{dec_lt}
use native.Mathlib.Omega.{arith}
use lib.ListN.{length}
use Rattle.std.specs.Prelude.{if◌then◌else◌, Option, None, Some, slice_get}
use Rattle.base.specs.Tests.{is_nil, head_of}
use Rattle.ids.specs.declared.FullNodeId.{FullNodeId}
use Rattle.state.specs.State.{Forest, present}
use Rattle.state_array.specs.View.{id_in, slots_of, view}
use Rattle.questions.specs.declared.Side.{Side}
use Rattle.questions.specs.declared.Side.TheVariants.{Following, Preceding}
use Rattle.questions.specs.declared.FilterResult.{FilterResult}
use Rattle.questions.specs.declared.FilterResult.TheVariants.{Include, ExcludeNode, ExcludeSubtree}
use Rattle.questions.specs.Links.{child_ids, siblings, ancestors}
use Rattle.questions.specs.Walks.{turned, leading, shown, or_else, deepest_within, filtered_children, first_filtered_child, last_filtered_child, deepest_first_filtered_child, deepest_last_filtered_child, is_excluded_node, filtered_parent, climbed, has_filtered_siblings, filtered_siblings}
use Rattle.questions.specs.Ahead.{ahead}
use Rattle.questions.proofs.Links.{ancestors_few}
use Rattle.questions.proofs.Ahead.{ahead_children}
use Rattle.questions.proofs.Shown.{mass_past, children_reverse, climbed_ahead}
use Rattle.questions.proofs.Few.{met_few, shown_few}
use Rattle.questions.proofs.Deepest.{Deepens, first_deepens, last_deepens, deepest_none, deepest_step}
use Rattle.question_calls.specs.Slots.{Sound, slot_id}
use Rattle.question_calls.proofs.links.Slots.{slot_id_some, slot_id_none, slot_shape, slot_present}
use Rattle.question_calls.specs.declared.steps.Place.{Place}
use Rattle.question_calls.specs.Places.{met_from}
use Rattle.question_calls.proofs.steps.Steps.{met_at, met_end}
use Rattle.question_calls.proofs.lists.Lists.{few_nodes}
use Rattle.question_calls.specs.Plain.{unlisted, listed_from, first_included, up_from}
use Rattle.question_calls.proofs.plain.Listed.{head_listed}
use Rattle.question_calls.specs.Filters.{is_exclude_node}
use Rattle.question_calls.specs.Shown.{met_after, ListsAhead, ListsBelow, Climbs, filtered_child_on, deepest_on}

head_none : {A : Type 0} (xs : List A) → head_of xs ≡ None → xs ≡ []
head_none [] e = refl
head_none (x ∷ xs) e = absurd (none-some x (sym e))

head_some : {A : Type 0} (xs : List A) (x : A) → head_of xs ≡ Some x → is_nil xs ≡ false
head_some [] x e = absurd (none-some x e)
head_some (y ∷ xs) x e = refl

-- on from a node that is not listed, by what the filter says of it
pub met_unlisted : (side : Side) (f : Forest) (level : ℕ) (x : FullNodeId) (r : FilterResult) (c : Bool) → c ≡ is_exclude_node r
    → met_after side f level x c ≡ unlisted side f level x r
unfolding met_after unlisted is_exclude_node
met_unlisted side f level x Include c e = rw e refl
met_unlisted side f level x ExcludeNode c e = rw e refl
met_unlisted side f level x ExcludeSubtree c e = rw e refl

module _ (side : Side) (s : List ℕ) (h : Sound s) where
  abbrev f : Forest
  f = (view s).forest

  -- from the first child on the children are met
  pub met_children : (i c : ℕ) → i < slots_of s → slot_id s c ≡ head_of (turned side (child_ids f (id_in s i)))
      → met_from side s (record { slot = c; level = 0 }) ≡ turned side (child_ids f (id_in s i))
  met_children i c there e = go (dec_lt c (slots_of s))
    where
      go : Dec (c < slots_of s) → met_from side s (record { slot = c; level = 0 }) ≡ turned side (child_ids f (id_in s i))
      go (yes l) =
          met_at side s c 0 l
          ∙ sym (ahead_children side f (slot_shape s h) (id_in s i) (id_in s c) (slot_present s h i there) (sym e ∙ slot_id_some s c l))
      go (no l) = let past : slots_of s ≤ c = omega arith in met_end side s c 0 past ∙ sym (head_none _ (sym e ∙ slot_id_none s c past))

  module _ (filter : FullNodeId → FilterResult) where
    abbrev listed : Place → List FullNodeId
    listed r = listed_from filter side s r

    -- ## The list of a place

    pub listed_nil : (r : Place) → slots_of s ≤ r.slot → listed r ≡ []
    unfolding listed_from
    listed_nil r l = rw (slot_id_none s r.slot l, listed_from) refl

    pub listed_open : (r : Place) → r.slot < slots_of s
        → listed r ≡ id_in s r.slot ∷ flat_map (shown filter side f) (ahead side f r.level (id_in s r.slot))
    unfolding listed_from
    listed_open r l = rw (slot_id_some s r.slot l, listed_from) refl

    pub listed_cons : (r next : Place) → r.slot < slots_of s → ListsAhead filter side s r.level next f (id_in s r.slot)
        → listed r ≡ id_in s r.slot ∷ listed next
    listed_cons r next l e = listed_open r l ∙ ap (λ (ys : List FullNodeId). id_in s r.slot ∷ ys) e

    -- it has at most 256 ids
    pub list_few : (r : Place) → length (listed r) ≤ 256
    unfolding listed_from
    list_few r = go (dec_lt r.slot (slots_of s))
      where
        go : Dec (r.slot < slots_of s) → length (listed r) ≤ 256
        go (yes l) =
            let x = id_in s r.slot in
            let there = slot_present s h r.slot l in
            rw (listed_open r l)
            (omega (
              arith,
              shown_few side f filter (ahead side f r.level x),
              mass_past side f (slot_shape s h) x there (ahead side f r.level x),
              met_few side f (slot_shape s h) r.level x there,
              few_nodes s h,
            ))
        go (no l) = let past : slots_of s ≤ r.slot = omega arith in rw (listed_nil r past) (omega arith)

    -- the node at a place of it
    pub at_first : (r : Place) → slot_id s r.slot ≡ slice_get (listed r) 0
    at_first r = sym (head_listed filter side s r) ∙ go (listed r)
      where
        go : (l : List FullNodeId) → head_of l ≡ slice_get l 0
        go [] = refl
        go (x ∷ l) = refl

    pub at_end : (r : Place) (n left : ℕ) → slots_of s ≤ r.slot → n ≡ slots_of s → slot_id s n ≡ slice_get (listed r) left
    at_end r n left l q = slot_id_none s n (omega arith) ∙ sym (ap (λ (ys : List FullNodeId). slice_get ys left) (listed_nil r l))

    pub at_next : (r next : Place) (left : ℕ) → r.slot < slots_of s → ListsAhead filter side s r.level next f (id_in s r.slot) → 0 < left
        → slice_get (listed next) (left - 1) ≡ slice_get (listed r) left
    at_next r next left l e m =
        let one : left ≡ suc (left - 1) = omega arith in
        sym (ap (λ (ys : List FullNodeId). slice_get ys left) (listed_cons r next l e) ∙ ap (slice_get (id_in s r.slot ∷ listed next)) one)

    -- ## The first child on a side

    child_on : (x : FullNodeId) → head_of (flat_map (shown filter side f) (turned side (child_ids f x))) ≡ filtered_child_on side filter f x
    unfolding filtered_child_on first_filtered_child last_filtered_child filtered_children turned
    child_on x = go side
      where
        go : (c : Side) → head_of (flat_map (shown filter c f) (turned c (child_ids f x))) ≡ filtered_child_on c filter f x
        go Following = refl
        go Preceding = ap head_of (sym (children_reverse filter f x))

    pub child_found : (r : Place) (x : FullNodeId) → ListsBelow filter side s r f x → slot_id s r.slot ≡ filtered_child_on side filter f x
    child_found r x e = sym (head_listed filter side s r) ∙ ap head_of (sym e) ∙ child_on x

    -- ## The deepest child on a side

    abbrev child_of : FullNodeId → Option FullNodeId
    child_of x = filtered_child_on side filter f x

    child_deepens : Deepens f (slot_shape s h) child_of
    unfolding filtered_child_on
    child_deepens = go side
      where
        go : (c : Side) → Deepens f (slot_shape s h) (filtered_child_on c filter f)
        go Following = first_deepens f (slot_shape s h) filter
        go Preceding = last_deepens f (slot_shape s h) filter

    deepest_by : (x : FullNodeId) → deepest_on side filter f x ≡ deepest_within (length f.nodes) child_of x
    unfolding deepest_on filtered_child_on deepest_first_filtered_child deepest_last_filtered_child
    deepest_by x = go side
      where
        go : (c : Side) → deepest_on c filter f x ≡ deepest_within (length f.nodes) (filtered_child_on c filter f) x
        go Following = refl
        go Preceding = refl

    deepest_after : (x y : FullNodeId) → present f.nodes x ≡ true → child_of x ≡ Some y → deepest_on side filter f x ≡ or_else y (deepest_on side filter f y)
    deepest_after x y there e =
        deepest_by x ∙ deepest_step f (slot_shape s h) child_of child_deepens x y there e ∙ ap (or_else y) (sym (deepest_by y))

    deepest_last : (x : FullNodeId) → child_of x ≡ None → deepest_on side filter f x ≡ None
    deepest_last x e = deepest_by x ∙ deepest_none f (slot_shape s h) child_of child_deepens x e

    -- the deepest from x is the node in slot d, or the deepest from there
    abbrev pub DeepestFrom : FullNodeId → ℕ → Type 0
    DeepestFrom x d = deepest_on side filter f x ≡ or_else (id_in s d) (deepest_on side filter f (id_in s d))

    pub deepest_nothing : (x : FullNodeId) (c n : ℕ) → slot_id s c ≡ child_of x → slots_of s ≤ c → n ≡ slots_of s → slot_id s n ≡ deepest_on side filter f x
    deepest_nothing x c n e l q = slot_id_none s n (omega arith) ∙ sym (deepest_last x (sym e ∙ slot_id_none s c l))

    pub deepest_start : (i c : ℕ) → i < slots_of s → slot_id s c ≡ child_of (id_in s i) → c < slots_of s → DeepestFrom (id_in s i) c
    deepest_start i c there e l = deepest_after (id_in s i) (id_in s c) (slot_present s h i there) (sym e ∙ slot_id_some s c l)

    module _ (d next : ℕ) (there : d < slots_of s) (e : slot_id s next ≡ child_of (id_in s d)) where
      pub deepest_end : (x : FullNodeId) → DeepestFrom x d → slots_of s ≤ next → slot_id s d ≡ deepest_on side filter f x
      deepest_end x q l =
          slot_id_some s d there ∙ sym (q ∙ ap (or_else (id_in s d)) (deepest_last (id_in s d) (sym e ∙ slot_id_none s next l)))

      pub deepest_on_lem : (x : FullNodeId) → DeepestFrom x d → next < slots_of s → DeepestFrom x next
      deepest_on_lem x q l =
          q
          ∙ ap (or_else (id_in s d)) (deepest_start d next there e l)
          ∙ go (deepest_on side filter f (id_in s next))
        where
          go : (o : Option FullNodeId) → or_else (id_in s d) (or_else (id_in s next) o) ≡ or_else (id_in s next) o
          go None = refl
          go (Some y) = refl

      -- it is deeper
      pub deepest_less : next < slots_of s → length f.nodes - length (ancestors f (id_in s next)) < length f.nodes - length (ancestors f (id_in s d))
      deepest_less l =
          omega (
            arith,
            (child_deepens (id_in s d) (id_in s next) (slot_present s h d there) (sym e ∙ slot_id_some s next l)).1,
            ancestors_few f (slot_shape s h) (id_in s d) (slot_present s h d there),
          )

    -- ## Filtered siblings

    module _ (x : FullNodeId) where
      orphan : filtered_parent filter f x ≡ None → filtered_siblings filter side f x ≡ []
      unfolding filtered_siblings has_filtered_siblings
      orphan e = rw (e, has_filtered_siblings) refl

      alone : (level : ℕ) → level ≡ length (leading (is_excluded_node filter) (ancestors f x)) → ahead side f level x ≡ [] → filtered_siblings filter side f x ≡ []
      unfolding filtered_siblings flat_map
      alone level l e = go (has_filtered_siblings filter f x)
        where
          go : (b : Bool) → (if b then flat_map (shown filter side f) (flat_map (siblings side f) (climbed filter f x)) else []) ≡ []
          go true = rw (climbed_ahead filter side f x, ← l, e) refl
          go false = refl

      childless : (p : FullNodeId) → filtered_parent filter f x ≡ Some p → first_filtered_child filter f p ≡ None → filtered_siblings filter side f x ≡ []
      unfolding filtered_siblings has_filtered_siblings first_filtered_child
      childless p e q = rw (e, has_filtered_siblings, head_none (filtered_children filter f p) q) refl

      parented : (p c : FullNodeId) (level : ℕ) → filtered_parent filter f x ≡ Some p → first_filtered_child filter f p ≡ Some c
          → level ≡ length (leading (is_excluded_node filter) (ancestors f x))
          → filtered_siblings filter side f x ≡ flat_map (shown filter side f) (ahead side f level x)
      unfolding filtered_siblings has_filtered_siblings first_filtered_child
      parented p c level e q l =
          rw (e, has_filtered_siblings, head_some (filtered_children filter f p) c q, climbed_ahead filter side f x, l) refl

    -- nothing is ahead
    pub siblings_alone : (x : FullNodeId) (up : Place) → Climbs filter s x up → (next r : Place) → met_from side s next ≡ ahead side f up.level x → slots_of s ≤ next.slot
        → slots_of s ≤ r.slot → filtered_siblings filter side f x ≡ listed r
    siblings_alone x up climbed next r e l past =
        alone x up.level climbed.levels (sym e ∙ met_end side s next.slot next.level l) ∙ sym (listed_nil r past)

    -- by the slot of the filtered parent, and by that of its first filtered child
    module _ (x : FullNodeId) (up : Place) (climbed : Climbs filter s x up) (p : ℕ) (found : slot_id s p ≡ first_included filter (up_from s up.slot)) (r : Place) where
      parent_is : slot_id s p ≡ filtered_parent filter f x
      parent_is = found ∙ sym climbed.parent_is

      -- no ancestor is included
      pub siblings_orphan : slots_of s ≤ p → slots_of s ≤ r.slot → filtered_siblings filter side f x ≡ listed r
      siblings_orphan l past = orphan x (sym parent_is ∙ slot_id_none s p l) ∙ sym (listed_nil r past)

      module _ (there : p < slots_of s) (c : ℕ) (first : slot_id s c ≡ filtered_child_on Following filter f (id_in s p)) where
        parent_at : filtered_parent filter f x ≡ Some (id_in s p)
        parent_at = sym parent_is ∙ slot_id_some s p there

        first_is : slot_id s c ≡ first_filtered_child filter f (id_in s p)
        unfolding filtered_child_on
        first_is = first

        -- the nearest included one has no filtered child
        pub siblings_childless : slots_of s ≤ c → slots_of s ≤ r.slot → filtered_siblings filter side f x ≡ listed r
        siblings_childless l past = childless x (id_in s p) parent_at (sym first_is ∙ slot_id_none s c l) ∙ sym (listed_nil r past)

        -- else they are what is listed of what is ahead
        pub siblings_listed : c < slots_of s → ListsAhead filter side s up.level r f x → filtered_siblings filter side f x ≡ listed r
        siblings_listed l e = parented x (id_in s p) (id_in s c) up.level parent_at (sym first_is ∙ slot_id_some s c l) climbed.levels ∙ e
