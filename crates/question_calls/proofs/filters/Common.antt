-- `common_filter`, case by case: what it says of a node by the first test that holds, and by what it says of the parent. Assumes nothing.
use mathlib.Core.Bool.{true, false}
use mathlib.Core.List.{List, [], ◌∷◌}
use Rattle.std.specs.Prelude.{None, Some, Option}
use mathlib.Core.Path.{◌≡◌, refl, sym, ap, ◌∙◌}
use Prim.Native.Nat.{ℕ, ◌≤◌, ◌<◌}
use native.Mathlib.Omega.{arith}
use lib.ListN.{length}
use Rattle.base.specs.Tests.{same_option}
use Rattle.ids.specs.Ids.{ROOT, same_id}
use Rattle.ids.specs.declared.FullNodeId.{FullNodeId}
use Rattle.state.specs.State.{parent_at, subtree_of}
use Rattle.state.specs.declared.SubtreeState.{SubtreeState}
use Rattle.state.specs.Down.{root_of}
use Rattle.state_array.specs.View.{id_in, slots_of, view}
use Rattle.questions.specs.declared.FilterResult.{FilterResult}
use Rattle.questions.specs.declared.FilterResult.TheVariants.{Include, ExcludeNode, ExcludeSubtree}
use Rattle.questions.specs.Links.{ancestors, is_hidden}
use Rattle.questions.specs.Walks.{filtered_parent}
use Rattle.questions.specs.Filters.{Seen, is_focused, is_transparent, common_filter_base, without_parent_checks, is_clipped, is_exclude_subtree, ordinary, common_filter_from, common_filter, with_root_exception}
use Rattle.question_calls.specs.Slots.{Sound, slot_id}
use Rattle.question_calls.proofs.links.Up.{top, more, hidden_more}
use Rattle.question_calls.specs.Plain.{seen_at, first_included}
use Rattle.question_calls.proofs.plain.Own.{clear_unhidden}
use Rattle.question_calls.proofs.plain.Focus.{focused_here, focused_not}
use Rattle.question_calls.specs.Filters.{Unhidden}

-- ## Of any state

module _ (v : Seen) (x : FullNodeId) where
  -- the first test that holds
  base_focused : is_focused v x ≡ true → common_filter_base v x ≡ Some Include
  unfolding common_filter_base
  base_focused a = rw a refl

  base_hidden : is_focused v x ≡ false → is_hidden v.forest x ≡ true → common_filter_base v x ≡ Some ExcludeSubtree
  unfolding common_filter_base
  base_hidden a b = rw (a, b) refl

  base_transparent : is_focused v x ≡ false → is_hidden v.forest x ≡ false → is_transparent v.forest x ≡ true → common_filter_base v x ≡ Some ExcludeNode
  unfolding common_filter_base
  base_transparent a b c = rw (a, b, c) refl

  pub base_none : is_focused v x ≡ false → is_hidden v.forest x ≡ false → is_transparent v.forest x ≡ false → common_filter_base v x ≡ None
  unfolding common_filter_base
  base_none a b c = rw (a, b, c) refl

  -- by a test that holds, whatever the parent says
  common_base : (r : FilterResult) → common_filter_base v x ≡ Some r → common_filter v x ≡ r
  unfolding common_filter common_filter_from
  common_base r e = go (ancestors v.forest x)
    where
      go : (up : List FullNodeId) → common_filter_from v x up ≡ r
      go [] = rw (e, common_filter_from) refl
      go (p ∷ up) = rw (e, common_filter_from) refl

  clipped_top : ancestors v.forest x ≡ [] → is_clipped v x ≡ false
  unfolding is_clipped filtered_parent
  clipped_top q =
      let orphan : filtered_parent (without_parent_checks v) v.forest x ≡ None = ap (first_included (without_parent_checks v)) q in
      rw (orphan, is_clipped) refl

  module _ (e : common_filter_base v x ≡ None) where
    -- without a parent there is no filtered parent, so nothing clips
    common_top : ancestors v.forest x ≡ [] → common_filter v x ≡ Include
    unfolding common_filter common_filter_from ordinary
    common_top q =
        let start : common_filter_from v x [] ≡ ordinary v x false = rw (e, common_filter_from) refl in
        ap (common_filter_from v x) q ∙ start ∙ rw (clipped_top q) refl

    pub common_more : (p : FullNodeId) → ancestors v.forest x ≡ p ∷ ancestors v.forest p → common_filter v x ≡ ordinary v x (is_exclude_subtree (common_filter v p))
    unfolding common_filter common_filter_from
    common_more p q = ap (common_filter_from v x) q ∙ rw (e, common_filter_from) refl

-- ## By slots

module _ (s : List ℕ) (h : Sound s) (k i : ℕ) (there : i < slots_of s) where
  abbrev v : Seen
  v = seen_at s k

  abbrev x : FullNodeId
  x = id_in s i

  pub common_focused : i ≡ k → Include ≡ common_filter v x
  common_focused e = sym (common_base v x Include (base_focused v x (focused_here s h k i there e)))

  module _ (other : i ≡ k → ⊥) where
    pub common_hidden : is_hidden v.forest x ≡ true → ExcludeSubtree ≡ common_filter v x
    common_hidden b = sym (common_base v x ExcludeSubtree (base_hidden v x (focused_not s h k i there other) b))

    module _ (b : is_hidden v.forest x ≡ false) where
      pub common_transparent : is_transparent v.forest x ≡ true → ExcludeNode ≡ common_filter v x
      common_transparent c = sym (common_base v x ExcludeNode (base_transparent v x (focused_not s h k i there other) b c))

      module _ (c : is_transparent v.forest x ≡ false) (p : ℕ) (up : slot_id s p ≡ parent_at v.forest.nodes x) where
        none_holds : common_filter_base v x ≡ None
        none_holds = base_none v x (focused_not s h k i there other) b c

        -- ROOT's root
        pub common_root : slots_of s ≤ p → Include ≡ common_filter v x
        common_root l = sym (common_top v x none_holds (top s h i there p up l))

        module _ (l : p < slots_of s) (r : FilterResult) (is : r ≡ common_filter v (id_in s p)) where
          by_parent : common_filter v x ≡ ordinary v x (is_exclude_subtree r)
          by_parent = common_more v x none_holds (id_in s p) (more s h i there p up l) ∙ ap (λ (q : FilterResult). ordinary v x (is_exclude_subtree q)) (sym is)

          -- dropped with its parent
          pub common_dropped : is_exclude_subtree r ≡ true → ExcludeSubtree ≡ common_filter v x
          unfolding ordinary
          common_dropped e = sym (by_parent ∙ rw e refl)

          -- clipped away, or included
          pub common_clipped : is_exclude_subtree r ≡ false → is_clipped v x ≡ true → ExcludeSubtree ≡ common_filter v x
          unfolding ordinary
          common_clipped e d = sym (by_parent ∙ rw (e, d) refl)

          pub common_included : is_exclude_subtree r ≡ false → is_clipped v x ≡ false → Include ≡ common_filter v x
          unfolding ordinary
          common_included e d = sym (by_parent ∙ rw (e, d) refl)

-- the parent of a node that is not hidden is not hidden, and is nearer the root
module _ (s : List ℕ) (i : ℕ) (u : Unhidden s i) (p : ℕ) (up : slot_id s p ≡ parent_at (view s).forest.nodes (id_in s i)) (l : p < slots_of s) where
  pub parent_unhidden : Unhidden s p
  parent_unhidden = record {
    is_sound = u.is_sound;
    within = l;
    shown = sym (hidden_more s u.is_sound i u.within p up l (clear_unhidden (view s).forest (id_in s i) u.shown).0) ∙ u.shown;
  }

  pub parent_nearer : length (ancestors (view s).forest (id_in s p)) < length (ancestors (view s).forest (id_in s i))
  parent_nearer = omega (arith, ap length (more s u.is_sound i u.within p up l))

-- ## The root exception

-- ROOT's root, by a search for ROOT
module _ (s : List ℕ) (x : FullNodeId) (r : Option SubtreeState) (ends : r ≡ subtree_of (view s).forest ROOT) where
  pub root_none : r ≡ None → false ≡ same_option same_id (root_of (view s).forest) (Some x)
  unfolding root_of
  root_none q = sym (rw (← ends, q, root_of) refl)

  pub root_some : (e : SubtreeState) → r ≡ Some e → (y : FullNodeId) → y ≡ x → same_id e.root y ≡ same_option same_id (root_of (view s).forest) (Some x)
  unfolding root_of
  root_some e q y z = sym (rw (← ends, q, root_of, z) refl)

module _ (v : Seen) (x : FullNodeId) where
  pub exception_root : same_option same_id (root_of v.forest) (Some x) ≡ true → Include ≡ with_root_exception v x
  unfolding with_root_exception
  exception_root e = sym (rw e refl)

  pub exception_other : same_option same_id (root_of v.forest) (Some x) ≡ false → common_filter v x ≡ with_root_exception v x
  unfolding with_root_exception
  exception_other e = sym (rw e refl)
