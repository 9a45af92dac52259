-- Climbing to the filtered parent of a node that is not hidden. Assumes nothing.
use mathlib.Core.Bool.{Bool, true, false, false≢true}
use mathlib.Core.List.{List, [], ◌∷◌}
use mathlib.Core.Path.{◌≡◌, refl, sym, ap, ◌∙◌}
use Prim.Native.Nat.{ℕ, ◌+◌, ◌≤◌, ◌<◌}
use native.Mathlib.Decide.{dec_lt}
use native.Mathlib.Omega.{arith}
use lib.ListN.{length}
use Rattle.std.specs.Prelude.{if◌then◌else◌, Option, None, Some}
use Rattle.base.specs.Tests.{any}
use Rattle.base.proofs.Tests.{or_false}
use Rattle.ids.specs.declared.FullNodeId.{FullNodeId}
use Rattle.state.specs.State.{Forest, parent_at}
use Rattle.state_array.specs.View.{id_in, slots_of, view}
use Rattle.questions.specs.declared.FilterResult.{FilterResult}
use Rattle.questions.specs.declared.FilterResult.TheVariants.{Include, ExcludeNode, ExcludeSubtree}
use Rattle.questions.specs.Links.{ancestors, hidden_at, is_hidden}
use Rattle.questions.specs.Walks.{leading, is_excluded_node, filtered_parent}
use Rattle.questions.specs.Filters.{without_parent_checks}
use Rattle.question_calls.specs.Slots.{Sound, slot_id}
use Rattle.question_calls.proofs.links.Slots.{slot_id_some, slot_id_none}
use Rattle.question_calls.proofs.links.Up.{few_ancestors, top, more}
use Rattle.question_calls.specs.Plain.{seen_at, own_filter, is_include, Above, first_included, up_from}
use Rattle.question_calls.proofs.plain.Own.{Clear, clear_unhidden, own_filter_lem, own_included}

pub include_is : (r : FilterResult) → is_include r ≡ true → r ≡ Include
unfolding is_include
include_is Include e = refl
include_is ExcludeNode e = absurd (false≢true e)
include_is ExcludeSubtree e = absurd (false≢true e)

-- ## The first of a list by what a filter says of it

module _ (filter : FullNodeId → FilterResult) where
  module _ (y : FullNodeId) (ys : List FullNodeId) where
    abbrev included : FilterResult → Bool
    included r = elim r [ Include ↦ true | ExcludeNode ↦ false | ExcludeSubtree ↦ false ]

    abbrev excluded : FilterResult → Bool
    excluded r = elim r [ Include ↦ false | ExcludeNode ↦ true | ExcludeSubtree ↦ false ]

    abbrev first_by : FilterResult → Option FullNodeId
    first_by r = elim (if included r then Some y else None) [ None ↦ first_included filter ys | Some z ↦ Some z ]

    abbrev leading_by : FilterResult → List FullNodeId
    leading_by r = if excluded r then y ∷ leading (is_excluded_node filter) ys else []

    pub first_included_lem : filter y ≡ Include → first_included filter (y ∷ ys) ≡ Some y
    first_included_lem e = ap first_by e

    pub first_passed : filter y ≡ ExcludeNode → first_included filter (y ∷ ys) ≡ first_included filter ys
    first_passed e = ap first_by e

    pub leading_stops : filter y ≡ Include → leading (is_excluded_node filter) (y ∷ ys) ≡ []
    unfolding leading
    leading_stops e = ap leading_by e

    pub leading_goes_on : filter y ≡ ExcludeNode → leading (is_excluded_node filter) (y ∷ ys) ≡ y ∷ leading (is_excluded_node filter) ys
    unfolding leading
    leading_goes_on e = ap leading_by e

-- ## A node and its ancestors, by its slot

module _ (s : List ℕ) where
  pub up_none : (p : ℕ) → slots_of s ≤ p → up_from s p ≡ []
  unfolding up_from
  up_none p l = rw (slot_id_none s p l, up_from) refl

  pub up_some : (p : ℕ) → p < slots_of s → up_from s p ≡ id_in s p ∷ ancestors (view s).forest (id_in s p)
  unfolding up_from
  up_some p l = rw (slot_id_some s p l, up_from) refl

  module _ (h : Sound s) where
    -- the ancestors of a node, by its parent's slot
    pub ancestors_up : (i p : ℕ) → i < slots_of s → slot_id s p ≡ parent_at (view s).forest.nodes (id_in s i)
        → ancestors (view s).forest (id_in s i) ≡ up_from s p
    ancestors_up i p there up = go (dec_lt p (slots_of s))
      where
        go : Dec (p < slots_of s) → ancestors (view s).forest (id_in s i) ≡ up_from s p
        go (yes l) = more s h i there p up l ∙ sym (up_some p l)
        go (no l) = top s h i there p up (omega arith) ∙ sym (up_none p (omega arith))

    -- one climb
    pub up_next : (p q : ℕ) → p < slots_of s → slot_id s q ≡ parent_at (view s).forest.nodes (id_in s p) → up_from s p ≡ id_in s p ∷ up_from s q
    up_next p q l up = up_some p l ∙ ap (λ (ys : List FullNodeId). id_in s p ∷ ys) (ancestors_up p q l up)

    -- there are at most as many as slots
    pub up_few : (p : ℕ) → length (up_from s p) ≤ 320
    up_few p = go (dec_lt p (slots_of s))
      where
        go : Dec (p < slots_of s) → length (up_from s p) ≤ 320
        go (yes l) = omega (arith, ap length (up_some p l), few_ancestors s h p l)
        go (no l) = let past : slots_of s ≤ p = omega arith in omega (arith, ap length (up_none p past))

-- ## What is found of the rest is what is found of all

module _ (s : List ℕ) (k : ℕ) where
  abbrev filter : FullNodeId → FilterResult
  filter = without_parent_checks (seen_at s k)

  abbrev f : Forest
  f = (view s).forest

  -- after `level` ancestors of x, the next is that in slot p
  pub record Climbed (x : FullNodeId) (p level : ℕ) : Type 0 where
    pub parent_is : filtered_parent filter f x ≡ first_included filter (up_from s p)
    pub levels : length (leading (is_excluded_node filter) (ancestors f x)) ≡ level + length (leading (is_excluded_node filter) (up_from s p))
    pub unhidden : any (hidden_at f) (up_from s p) ≡ false

  module _ (h : Sound s) where
    pub climbed_start : (i p : ℕ) → i < slots_of s → is_hidden f (id_in s i) ≡ false → slot_id s p ≡ parent_at f.nodes (id_in s i) → Climbed (id_in s i) p 0
    unfolding filtered_parent
    climbed_start i p there shown up =
        let same = ancestors_up s h i p there up in record {
          parent_is = ap (first_included filter) same;
          levels = ap (λ (ys : List FullNodeId). length (leading (is_excluded_node filter) ys)) same ∙ omega arith;
          unhidden = rw same at (clear_unhidden f (id_in s i) shown).1;
        }

    pub climbed_end : (x : FullNodeId) (p level n : ℕ) → Climbed x p level → slots_of s ≤ p → n ≡ slots_of s → Above filter s x (record { slot = n; level = level })
    unfolding leading
    climbed_end x p level n c l q = record {
      parent_is = slot_id_none s n (omega arith) ∙ sym (c.parent_is ∙ ap (first_included filter) (up_none s p l));
      levels = sym (c.levels ∙ rw (up_none s p l) (omega arith));
    }

    module _ (x : FullNodeId) (p q level : ℕ) (c : Climbed x p level) (l : p < slots_of s) (r : FilterResult) (own : r ≡ own_filter (seen_at s k) (id_in s p)) where
      abbrev y : FullNodeId
      y = id_in s p

      up_here : up_from s p ≡ y ∷ ancestors f y
      up_here = up_some s p l

      -- the node itself is not hidden, nor an ancestor of it
      clear : (hidden_at f y ≡ false) × Clear f y
      clear = or_false (hidden_at f y) (rw up_here at c.unhidden)

      by_filter : filter y ≡ r
      by_filter = own_filter_lem (seen_at s k) y clear.1 ∙ sym own

      pub climbed_found : is_include r ≡ true → Above filter s x (record { slot = p; level = level })
      climbed_found e =
          let yes : filter y ≡ Include = by_filter ∙ include_is r e in record {
            parent_is = slot_id_some s p l ∙ sym (c.parent_is ∙ ap (first_included filter) up_here ∙ first_included_lem filter y (ancestors f y) yes);
            levels = sym (c.levels ∙ rw (up_here, leading_stops filter y (ancestors f y) yes) (omega arith));
          }

      pub climbed_on : slot_id s q ≡ parent_at f.nodes y → is_include r ≡ false → Climbed x q (level + 1)
      climbed_on up e =
          let next = up_next s h p q l up in
          let passed : filter y ≡ ExcludeNode = own_filter_lem (seen_at s k) y clear.1 ∙ own_included (seen_at s k) y clear.0 (rw own at e) in record {
            parent_is = c.parent_is ∙ ap (first_included filter) next ∙ first_passed filter y (up_from s q) passed;
            levels = c.levels ∙ rw (next, leading_goes_on filter y (up_from s q) passed) (omega arith);
            unhidden = (or_false (hidden_at f y) (rw next at c.unhidden)).1;
          }
