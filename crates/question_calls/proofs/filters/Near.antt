-- `common_filter` of a node by what is told of it and its parent, and the nearest included node from a node up. Assumes nothing.
use mathlib.Core.Bool.{Bool, true, false, true≢false, false≢true, not, ◌||◌, or-true, or-false}
use mathlib.Core.List.{List, [], ◌∷◌}
use Rattle.std.proofs.lemmas.Option.{none-some, same_Some}
use mathlib.Core.Path.{◌≡◌, refl, sym, ap, ◌∙◌, subst}
use Prim.Native.Nat.{ℕ, ◌≤◌, ◌<◌}
use native.Mathlib.Decide.{dec_lt}
use native.Mathlib.Omega.{arith}
use Rattle.std.specs.Prelude.{if◌then◌else◌, Option, None, Some}
use Rattle.base.specs.Tests.{same_option, ◌and◌}
use Rattle.ids.specs.Ids.{same_id}
use Rattle.ids.specs.declared.FullNodeId.{FullNodeId}
use Rattle.state.specs.State.{parent_at}
use Rattle.state.specs.Down.{root_of}
use Rattle.state.proofs.Sound.{Shape}
use Rattle.state_array.specs.View.{id_in, slots_of, view}
use Rattle.questions.specs.declared.Filter.{Filter}
use Rattle.questions.specs.declared.Filter.TheVariants.{Common, WithRootException, WithoutParentChecks}
use Rattle.questions.specs.declared.FilterResult.{FilterResult}
use Rattle.questions.specs.declared.FilterResult.TheVariants.{Include, ExcludeNode, ExcludeSubtree}
use Rattle.questions.specs.Links.{ancestors, hidden_at, is_hidden}
use Rattle.questions.specs.Filters.{Seen, is_transparent, is_clipped, common_filter_base, without_parent_checks, is_exclude_subtree, ordinary, common_filter_from, common_filter, with_root_exception, filter_of}
use Rattle.questions.proofs.Links.{parent_link, parentless_link, ancestors_end, ancestors_step}
use Rattle.question_calls.specs.Slots.{Sound, slot_id}
use Rattle.question_calls.proofs.links.Slots.{slot_id_some, slot_id_none, slot_shape}
use Rattle.question_calls.proofs.links.Up.{hidden_own, hidden_top, hidden_more}
use Rattle.question_calls.specs.Plain.{seen_at, is_include, first_included, up_from}
use Rattle.question_calls.proofs.plain.Above.{include_is, first_included_lem, up_none, up_some, up_next}
use Rattle.question_calls.proofs.plain.Focus.{focused_not}
use Rattle.question_calls.specs.declared.filters.Known.{Known}
use Rattle.question_calls.specs.declared.filters.Nearest.{Nearest}
use Rattle.question_calls.specs.Filters.{Unhidden, parent_dropped, Knows, Told, is_plain, has_root_exception, excepted_filter, is_kept, is_exclude_node, Near}
use Rattle.question_calls.proofs.filters.Common.{base_none, common_more, exception_other}

-- ## ExcludeNode is said whatever the parent is

module _ (v : Seen) (x : FullNodeId) where
  ordinary_stands : (b : Bool) → is_exclude_node (ordinary v x b) ≡ false
  unfolding ordinary is_exclude_node
  ordinary_stands true = refl
  ordinary_stands false = go (is_clipped v x)
    where
      go : (c : Bool) → is_exclude_node (if c then ExcludeSubtree else Include) ≡ false
      go true = refl
      go false = refl

  pub passed_common : is_exclude_node (without_parent_checks v x) ≡ is_exclude_node (common_filter v x)
  unfolding without_parent_checks common_filter common_filter_from is_exclude_node
  passed_common = go (common_filter_base v x) refl (ancestors v.forest x)
    where
      go : (o : Option FilterResult) → common_filter_base v x ≡ o → (up : List FullNodeId)
          → is_exclude_node (elim o as (λ _. FilterResult) [ None ↦ Include | Some r ↦ r ]) ≡ is_exclude_node (common_filter_from v x up)
      go None e [] = sym (rw (e, common_filter_from) (ordinary_stands false))
      go None e (p ∷ up) = sym (rw (e, common_filter_from) (ordinary_stands (is_exclude_subtree (common_filter_from v p up))))
      go (Some r) e [] = sym (rw (e, common_filter_from) refl)
      go (Some r) e (p ∷ up) = sym (rw (e, common_filter_from) refl)

  -- by whether the parent is dropped, where no test holds of the node itself
  pub common_told : Shape v.forest → common_filter_base v x ≡ None → common_filter v x ≡ ordinary v x (parent_dropped v x)
  unfolding parent_dropped common_filter common_filter_from
  common_told h e = go (parent_at v.forest.nodes x) refl
    where
      go : (o : Option FullNodeId) → parent_at v.forest.nodes x ≡ o
          → common_filter v x ≡ ordinary v x (elim o as (λ _. Bool) [ None ↦ false | Some p ↦ is_exclude_subtree (common_filter v p) ])
      go None q = ap (common_filter_from v x) (ancestors_end v.forest h x (parentless_link v.forest.nodes x q)) ∙ rw (e, common_filter_from) refl
      go (Some p) q =
          let l = parent_link v.forest.nodes x p q in
          common_more v x e p (rw l.2 at (ancestors_step v.forest h x l.0 l.1))

  -- ## By the filter

  pub included_undropped : (filter : Filter) → is_plain filter ≡ false → same_option same_id (root_of v.forest) (Some x) ≡ false → filter_of filter v x ≡ Include
      → false ≡ is_exclude_subtree (common_filter v x)
  unfolding is_plain filter_of is_exclude_subtree
  included_undropped Common a b e = sym (ap is_exclude_subtree e)
  included_undropped WithRootException a b e = sym (ap is_exclude_subtree (exception_other v x b ∙ e))
  included_undropped WithoutParentChecks a b e = absurd (true≢false a)

  -- ExcludeNode, but for ROOT's root where it is excepted
  pub passed_plain : (filter : Filter) → has_root_exception filter ≡ false → is_exclude_node (without_parent_checks v x) ≡ is_exclude_node (filter_of filter v x)
  unfolding has_root_exception filter_of
  passed_plain Common a = passed_common
  passed_plain WithRootException a = absurd (true≢false a)
  passed_plain WithoutParentChecks a = refl

  pub passed_excepted : (filter : Filter) → has_root_exception filter ≡ true
      → is_exclude_node (without_parent_checks v x) and not (same_option same_id (root_of v.forest) (Some x)) ≡ is_exclude_node (filter_of filter v x)
  unfolding has_root_exception filter_of with_root_exception is_exclude_node ◌and◌
  passed_excepted Common a = absurd (false≢true a)
  passed_excepted WithRootException a = ap (λ (b : Bool). b and not (same_option same_id (root_of v.forest) (Some x))) passed_common ∙ go (same_option same_id (root_of v.forest) (Some x)) (common_filter v x)
    where
      go : (b : Bool) (r : FilterResult) → is_exclude_node r and not b ≡ is_exclude_node (if b then Include else r)
      go true Include = refl
      go true ExcludeNode = refl
      go true ExcludeSubtree = refl
      go false Include = refl
      go false ExcludeNode = refl
      go false ExcludeSubtree = refl
  passed_excepted WithoutParentChecks a = absurd (false≢true a)

  -- included, or ROOT's root where it is excepted
  pub kept_filter : (e : Bool) (r : FilterResult) → r ≡ common_filter v x → is_kept v.forest e r x ≡ is_include (filter_of (excepted_filter e) v x)
  unfolding is_kept ◌and◌ excepted_filter filter_of with_root_exception is_include
  kept_filter false r q = or-false (is_include r) ∙ ap is_include q
  kept_filter true r q = rw q (go (same_option same_id (root_of v.forest) (Some x)))
    where
      go : (b : Bool) → (is_include (common_filter v x) || b) ≡ is_include (if b then Include else common_filter v x)
      go true = or-true (is_include (common_filter v x))
      go false = or-false (is_include (common_filter v x))

-- the filter that asks no parent, and the two that do
module _ (v : Seen) where
  pub plain_filter : (filter : Filter) → is_plain filter ≡ true → without_parent_checks v ≡ filter_of filter v
  unfolding is_plain filter_of
  plain_filter Common a = absurd (false≢true a)
  plain_filter WithRootException a = absurd (false≢true a)
  plain_filter WithoutParentChecks a = refl

  pub asking_filter : (filter : Filter) → is_plain filter ≡ false → filter_of (excepted_filter (has_root_exception filter)) v ≡ filter_of filter v
  unfolding is_plain has_root_exception excepted_filter
  asking_filter Common a = refl
  asking_filter WithRootException a = refl
  asking_filter WithoutParentChecks a = absurd (true≢false a)

-- ## The first of a list

module _ (filter : FullNodeId → FilterResult) (y : FullNodeId) (ys : List FullNodeId) where
  abbrev first_by : FilterResult → Option FullNodeId
  first_by r = elim (if (elim r [ Include ↦ true | ExcludeNode ↦ false | ExcludeSubtree ↦ false ]) then Some y else None) [ None ↦ first_included filter ys | Some z ↦ Some z ]

  -- one that is not included is passed over
  pub first_other : (r : FilterResult) → filter y ≡ r → is_include r ≡ false → first_included filter (y ∷ ys) ≡ first_included filter ys
  unfolding is_include
  first_other Include q e = absurd (true≢false e)
  first_other ExcludeNode q e = ap first_by q
  first_other ExcludeSubtree q e = ap first_by q

-- the first included node is included
pub first_is : (filter : FullNodeId → FilterResult) (ys : List FullNodeId) (y : FullNodeId) → first_included filter ys ≡ Some y → filter y ≡ Include
unfolding is_include
first_is filter [] y e = absurd (none-some y e)
first_is filter (x ∷ ys) y e = go (filter x) refl (first_is filter ys y)
  where
    go : (r : FilterResult) → filter x ≡ r → (first_included filter ys ≡ Some y → filter y ≡ Include) → filter y ≡ Include
    go Include q on = rw (← same_Some x y (sym (first_included_lem filter x ys q) ∙ e)) q
    go ExcludeNode q on = on (sym (first_other filter x ys ExcludeNode q refl) ∙ e)
    go ExcludeSubtree q on = on (sym (first_other filter x ys ExcludeSubtree q refl) ∙ e)

-- the first included node from a slot up
module _ (filter : FullNodeId → FilterResult) (s : List ℕ) (h : Sound s) where
  module _ (p : ℕ) (l : p < slots_of s) (r : FilterResult) (is : r ≡ filter (id_in s p)) where
    pub included_here : is_include r ≡ true → slot_id s p ≡ first_included filter (up_from s p)
    included_here e =
        slot_id_some s p l
        ∙ sym (ap (first_included filter) (up_some s p l) ∙ first_included_lem filter (id_in s p) (ancestors (view s).forest (id_in s p)) (sym is ∙ include_is r e))

    pub included_on : (q : ℕ) → slot_id s q ≡ parent_at (view s).forest.nodes (id_in s p) → is_include r ≡ false
        → first_included filter (up_from s q) ≡ first_included filter (up_from s p)
    included_on q up e = sym (ap (first_included filter) (up_next s h p q l up) ∙ first_other filter (id_in s p) (up_from s q) r (sym is) e)

  pub included_end : (p n : ℕ) → slots_of s ≤ p → n ≡ slots_of s → slot_id s n ≡ first_included filter (up_from s p)
  included_end p n l q = slot_id_none s n (omega arith) ∙ sym (ap (first_included filter) (up_none s p l))

-- ## What is told of a node by its parent

module _ (s : List ℕ) (k : ℕ) (h : Sound s) (i : ℕ) (there : i < slots_of s) (p : ℕ) (up : slot_id s p ≡ parent_at (view s).forest.nodes (id_in s i)) where
  -- whether the parent is dropped
  pub dropped_top : slots_of s ≤ p → false ≡ parent_dropped (seen_at s k) (id_in s i)
  unfolding parent_dropped
  dropped_top l = sym (rw (← up, slot_id_none s p l, parent_dropped) refl)

  pub dropped_up : (d : Bool) → p < slots_of s → d ≡ is_exclude_subtree (common_filter (seen_at s k) (id_in s p)) → d ≡ parent_dropped (seen_at s k) (id_in s i)
  unfolding parent_dropped
  dropped_up d l e = e ∙ sym (rw (← up, slot_id_some s p l, parent_dropped) refl)

  pub dropped_above : (d : Bool) → (slots_of s ≤ p → d ≡ false) → (p < slots_of s → d ≡ is_exclude_subtree (common_filter (seen_at s k) (id_in s p)))
      → d ≡ parent_dropped (seen_at s k) (id_in s i)
  dropped_above d past below = go (dec_lt p (slots_of s))
    where
      go : Dec (p < slots_of s) → d ≡ parent_dropped (seen_at s k) (id_in s i)
      go (yes l) = dropped_up d l (below l)
      go (no l) = past (omega arith) ∙ dropped_top (omega arith)

  pub dropped_known : (known : Known) → Knows s k known → p ≡ known.slot → p < slots_of s → known.dropped ≡ parent_dropped (seen_at s k) (id_in s i)
  dropped_known known knows e l =
      dropped_up known.dropped l
      (subst (λ (j : ℕ). j < slots_of s → known.dropped ≡ is_exclude_subtree (common_filter (seen_at s k) (id_in s j))) (sym e) knows l)

-- whether the node is hidden, by its own flag b and whether the parent is
module _ (s : List ℕ) (h : Sound s) (i : ℕ) (there : i < slots_of s) (p : ℕ) (up : slot_id s p ≡ parent_at (view s).forest.nodes (id_in s i)) where
  pub hidden_joined : (a b : Bool) → (slots_of s ≤ p → a ≡ false) → (p < slots_of s → a ≡ is_hidden (view s).forest (id_in s p)) → b ≡ hidden_at (view s).forest (id_in s i)
      → (a || b) ≡ is_hidden (view s).forest (id_in s i)
  hidden_joined a true past below e = or-true a ∙ sym (hidden_own s h i there (sym e))
  hidden_joined a false past below e = or-false a ∙ go (dec_lt p (slots_of s))
    where
      go : Dec (p < slots_of s) → a ≡ is_hidden (view s).forest (id_in s i)
      go (yes l) = below l ∙ sym (hidden_more s h i there p up l (sym e))
      go (no l) = past (omega arith) ∙ sym (hidden_top s h i there p up (omega arith) (sym e))

-- ## What is told of a node says what the filter says

module _ (s : List ℕ) (k i : ℕ) (hidden dropped : Bool) (t : Told s k i hidden dropped) (shown : hidden ≡ false) where
  pub told_unhidden : Unhidden s i
  told_unhidden = record { is_sound = t.is_sound; within = t.within; shown = sym t.hidden_is ∙ shown }

  module _ (other : i ≡ k → ⊥) (plain : is_transparent (view s).forest (id_in s i) ≡ false) where
    told : common_filter (seen_at s k) (id_in s i) ≡ ordinary (seen_at s k) (id_in s i) dropped
    told =
        common_told (seen_at s k) (id_in s i) (slot_shape s t.is_sound)
        (base_none (seen_at s k) (id_in s i) (focused_not s t.is_sound k i t.within other) told_unhidden.shown plain)
        ∙ ap (ordinary (seen_at s k) (id_in s i)) (sym t.dropped_is)

    pub told_dropped : dropped ≡ true → ExcludeSubtree ≡ common_filter (seen_at s k) (id_in s i)
    unfolding ordinary
    told_dropped e = sym (told ∙ rw e refl)

    pub told_clipped : dropped ≡ false → is_clipped (seen_at s k) (id_in s i) ≡ true → ExcludeSubtree ≡ common_filter (seen_at s k) (id_in s i)
    unfolding ordinary
    told_clipped e d = sym (told ∙ rw (e, d) refl)

    pub told_included : dropped ≡ false → is_clipped (seen_at s k) (id_in s i) ≡ false → Include ≡ common_filter (seen_at s k) (id_in s i)
    unfolding ordinary
    told_included e d = sym (told ∙ rw (e, d) refl)

-- ## What the node in slot p tells of the node in slot i below it

module _ (s : List ℕ) (k : ℕ) (e : Bool) (h : Sound s) (i : ℕ) (there : i < slots_of s) (p : ℕ)
    (up : slot_id s p ≡ parent_at (view s).forest.nodes (id_in s i)) (above : Nearest) (near : Near s k e p above)
    (own : Bool) (flag : own ≡ hidden_at (view s).forest (id_in s i)) where
  hidden : (above.hidden || own) ≡ is_hidden (view s).forest (id_in s i)
  hidden = hidden_joined s h i there p up above.hidden own (λ past. (near.nothing past).0) near.hidden_is flag

  pub near_told : Told s k i (above.hidden || own) above.dropped
  near_told = record {
    is_sound = h;
    within = there;
    hidden_is = hidden;
    dropped_is = dropped_above s k h i there p up above.dropped (λ past. (near.nothing past).1) near.dropped_is;
  }

  module _ (r : FilterResult) (is : r ≡ common_filter (seen_at s k) (id_in s i)) (d : Bool) (dropped : d ≡ is_exclude_subtree r)
      (b : Bool) (kept : b ≡ is_kept (view s).forest e r (id_in s i)) where
    abbrev filter : FullNodeId → FilterResult
    filter = filter_of (excepted_filter e) (seen_at s k)

    included : b ≡ is_include (filter (id_in s i))
    included = kept ∙ kept_filter (seen_at s k) (id_in s i) e r is

    near_with : (j : ℕ) → slot_id s j ≡ first_included filter (up_from s i) → Near s k e i (record { included = j; hidden = above.hidden || own; dropped = d })
    near_with j q = record {
      included_is = q;
      nothing = λ past. absurd (omega (arith, past, there));
      hidden_is = λ _. hidden;
      dropped_is = λ _. dropped ∙ ap is_exclude_subtree is;
    }

    -- it is the nearest included one itself, or that is the parent's
    pub near_here : b ≡ true → Near s k e i (record { included = i; hidden = above.hidden || own; dropped = d })
    near_here q = near_with i (included_here filter s h i there (filter (id_in s i)) refl (sym included ∙ q))

    pub near_up : b ≡ false → Near s k e i (record { included = above.included; hidden = above.hidden || own; dropped = d })
    near_up q = near_with above.included (near.included_is ∙ included_on filter s h i there (filter (id_in s i)) refl p up (sym included ∙ q))
