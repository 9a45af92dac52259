-- Climbing to the filtered parent, by what a filter says of the node in the slot. Assumes nothing.
use mathlib.Core.Bool.{true, false, true≢false, false≢true}
use mathlib.Core.List.{List, [], ◌∷◌}
use mathlib.Core.Path.{◌≡◌, refl, sym, ap, ◌∙◌}
use Prim.Native.Nat.{ℕ, ◌+◌, ◌≤◌, ◌<◌}
use native.Mathlib.Omega.{arith}
use lib.ListN.{length}
use Rattle.std.specs.Prelude.{if◌then◌else◌}
use Rattle.ids.specs.declared.FullNodeId.{FullNodeId}
use Rattle.state.specs.State.{Forest, parent_at}
use Rattle.state_array.specs.View.{id_in, slots_of, view}
use Rattle.questions.specs.declared.FilterResult.{FilterResult}
use Rattle.questions.specs.declared.FilterResult.TheVariants.{Include, ExcludeNode, ExcludeSubtree}
use Rattle.questions.specs.Links.{ancestors}
use Rattle.questions.specs.Walks.{leading, is_excluded_node, filtered_parent}
use Rattle.question_calls.specs.Slots.{Sound, slot_id}
use Rattle.question_calls.specs.Plain.{is_include, first_included, up_from}
use Rattle.question_calls.proofs.plain.Above.{leading_goes_on, up_none, up_some, ancestors_up, up_next}
use Rattle.question_calls.specs.Filters.{is_exclude_node}
use Rattle.question_calls.proofs.filters.Near.{first_other}
use Rattle.question_calls.specs.Shown.{Climbs}

node_is : (r : FilterResult) → is_exclude_node r ≡ true → r ≡ ExcludeNode
unfolding is_exclude_node
node_is Include e = absurd (false≢true e)
node_is ExcludeNode e = refl
node_is ExcludeSubtree e = absurd (false≢true e)

-- ## The first of a list

module _ (filter : FullNodeId → FilterResult) (y : FullNodeId) (ys : List FullNodeId) where
  first_after : filter y ≡ ExcludeNode → first_included filter (y ∷ ys) ≡ first_included filter ys
  unfolding is_include
  first_after q = first_other filter y ys ExcludeNode q refl

  abbrev leading_by : FilterResult → List FullNodeId
  leading_by r = if (elim r [ Include ↦ false | ExcludeNode ↦ true | ExcludeSubtree ↦ false ]) then y ∷ leading (is_excluded_node filter) ys else []

  -- one that is not ExcludeNode ends the climb
  leading_ends : (r : FilterResult) → filter y ≡ r → is_exclude_node r ≡ false → leading (is_excluded_node filter) (y ∷ ys) ≡ []
  unfolding is_exclude_node leading
  leading_ends Include q e = ap leading_by q
  leading_ends ExcludeNode q e = absurd (true≢false e)
  leading_ends ExcludeSubtree q e = ap leading_by q

module _ (filter : FullNodeId → FilterResult) (s : List ℕ) (h : Sound s) where
  abbrev f : Forest
  f = (view s).forest

  abbrev climbed_from : ℕ → List FullNodeId
  climbed_from p = leading (is_excluded_node filter) (up_from s p)

  -- after `level` ancestors of x, the next is that in slot p
  pub record Climbing (x : FullNodeId) (p level : ℕ) : Type 0 where
    pub levels : length (leading (is_excluded_node filter) (ancestors f x)) ≡ level + length (climbed_from p)
    pub parent_is : filtered_parent filter f x ≡ first_included filter (up_from s p)

  module _ (i p : ℕ) (there : i < slots_of s) (up : slot_id s p ≡ parent_at f.nodes (id_in s i)) where
    -- from the parent on
    pub parent_from : filtered_parent filter f (id_in s i) ≡ first_included filter (up_from s p)
    unfolding filtered_parent
    parent_from = ap (first_included filter) (ancestors_up s h i p there up)

    pub climbing_start : Climbing (id_in s i) p 0
    climbing_start = record {
      levels = ap (λ (ys : List FullNodeId). length (leading (is_excluded_node filter) ys)) (ancestors_up s h i p there up) ∙ omega arith;
      parent_is = parent_from;
    }

  -- at the top
  pub climbing_end : (x : FullNodeId) (p level n : ℕ) → Climbing x p level → slots_of s ≤ p → n ≡ slots_of s → Climbs filter s x (record { slot = n; level = level })
  unfolding leading
  climbing_end x p level n c l q =
      let past : slots_of s ≤ n = omega arith in
      record {
        levels = sym (c.levels ∙ rw (up_none s p l) (omega arith));
        parent_is = c.parent_is ∙ ap (first_included filter) (up_none s p l ∙ sym (up_none s n past));
      }

  module _ (p : ℕ) (l : p < slots_of s) (r : FilterResult) (is : r ≡ filter (id_in s p)) where
    module _ (x : FullNodeId) (level : ℕ) (c : Climbing x p level) where
      -- at one that is not ExcludeNode
      pub climbing_stops : is_exclude_node r ≡ false → Climbs filter s x (record { slot = p; level = level })
      climbing_stops e = record {
        levels = sym (c.levels ∙ rw (up_some s p l, leading_ends filter (id_in s p) (ancestors f (id_in s p)) r (sym is) e) (omega arith));
        parent_is = c.parent_is;
      }

      -- past one that is
      pub climbing_on : (q : ℕ) → slot_id s q ≡ parent_at f.nodes (id_in s p) → is_exclude_node r ≡ true → Climbing x q (level + 1)
      climbing_on q up e =
          let passed : filter (id_in s p) ≡ ExcludeNode = sym is ∙ node_is r e in
          let next = up_next s h p q l up in record {
            levels = c.levels ∙ rw (next, leading_goes_on filter (id_in s p) (up_from s q) passed) (omega arith);
            parent_is = c.parent_is ∙ ap (first_included filter) next ∙ first_after filter (id_in s p) (up_from s q) passed;
          }
