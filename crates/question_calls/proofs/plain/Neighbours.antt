-- The filtered siblings of a node that is not hidden and is listed: it is a filtered child of its filtered parent, and what is ahead of it is
-- listed by the own flags. Assumes nothing.
use mathlib.Core.Bool.{Bool, true, false, not}
use mathlib.Core.List.{List, [], ◌∷◌, flat_map, Memᴰ}
use Rattle.std.proofs.lemmas.Option.{none-some, same_Some}
use mathlib.Core.Path.{◌≡◌, refl, sym, ap, ◌∙◌, subst}
use lib.ListN.{length}
use Rattle.std.specs.Prelude.{if◌then◌else◌, Some}
use Rattle.base.specs.Tests.{any, is_nil}
use Rattle.base.proofs.Tests.{or_false}
use Rattle.ids.specs.declared.FullNodeId.{FullNodeId}
use Rattle.state.specs.State.{Forest, present}
use Rattle.state.proofs.Sound.{Shape}
use Rattle.state.proofs.Family.{parent_present}
use Rattle.questions.specs.declared.Side.{Side}
use Rattle.questions.specs.declared.Side.TheVariants.{Following}
use Rattle.questions.specs.declared.FilterResult.{FilterResult}
use Rattle.questions.specs.declared.FilterResult.TheVariants.{Include, ExcludeNode, ExcludeSubtree}
use Rattle.questions.specs.Links.{child_ids, ancestors, hidden_at, is_hidden}
use Rattle.questions.specs.Walks.{turned, leading, shown, filtered_children, is_excluded_node, filtered_parent, has_filtered_siblings, filtered_siblings}
use Rattle.questions.specs.Filters.{Seen, is_focused, is_transparent, without_parent_checks}
use Rattle.questions.proofs.Links.{member_at, link_child}
use Rattle.questions.proofs.Walks.{shown_include, shown_node}
use Rattle.questions.proofs.Shown.{climbed_ahead}
use Rattle.question_calls.specs.Plain.{own_filter, is_include, shown_ahead, first_included}
use Rattle.question_calls.proofs.plain.Own.{clear_unhidden, Climbs, ancestors_cons, own_filter_lem, own_included, own_ahead}
use Rattle.question_calls.proofs.plain.Above.{include_is, first_included_lem, first_passed}

-- ## Members of lists put together

module _ {A B : Type 0} (g : A → List B) (x : A) (y : B) (j : Memᴰ y (g x)) where
  flat_mem : (xs : List A) → Memᴰ x xs → Memᴰ y (flat_map g xs)
  unfolding flat_map
  flat_mem [] x'' = elim x'' [ ]
  flat_mem (z ∷ xs) (mathlib.Core.List.Memᴰ.head e) = mathlib.Core.List.Memᴰ.append_left (flat_map g xs) (subst (λ (w : A). Memᴰ y (g w)) e j)
  flat_mem (z ∷ xs) (mathlib.Core.List.Memᴰ.tail i) = mathlib.Core.List.Memᴰ.append_right (g z) (flat_mem xs i)

not_nil : {A : Type 0} (xs : List A) (y : A) → Memᴰ y xs → not (is_nil xs) ≡ true
not_nil [] y i = absurd (mathlib.Core.List.Memᴰ.not-nil i)
not_nil (x ∷ xs) y i = refl

-- ## A listed node is a filtered child of its filtered parent

module _ (v : Seen) (h : Shape v.forest) where
  abbrev f : Forest
  f = v.forest

  abbrev filter : FullNodeId → FilterResult
  filter = without_parent_checks v

  -- of a node none of whose ancestors is hidden: what stands for it stands among the filtered children of the nearest included ancestor
  shown_above : (up : List FullNodeId) (x y p : FullNodeId) → ancestors f x ≡ up → any (hidden_at f) up ≡ false
      → Memᴰ y (shown filter Following f x) → first_included filter up ≡ Some p → Memᴰ y (filtered_children filter f p)
  unfolding filtered_children turned
  shown_above [] x y p e clear i found = absurd (none-some p found)
  shown_above (q ∷ up) x y p e clear i found =
      go (is_include (own_filter v q)) refl (shown_above up q y p z.above parts.1)
    where
      z : Climbs f x q up
      z = ancestors_cons f h x q up e

      parts : (hidden_at f q ≡ false) × (any (hidden_at f) up ≡ false)
      parts = or_false (hidden_at f q) clear

      there : present f.nodes q ≡ true
      there = rw z.parent_is at (parent_present f h x z.link z.linked)

      -- it stands there among the children of the parent
      below : Memᴰ y (flat_map (shown filter Following f) (child_ids f q))
      below =
          let c = link_child f h x z.link x z.linked in
          let m = member_at (child_ids f z.link.parent) z.link.index x c.0 in
          flat_mem (shown filter Following f) x y i (child_ids f q) (rw (c.1, z.parent_is) at m)

      same : filter q ≡ own_filter v q
      same = own_filter_lem v q (rw z.above parts.1)

      go : (b : Bool) → is_include (own_filter v q) ≡ b
          → (Memᴰ y (shown filter Following f q) → first_included filter up ≡ Some p → Memᴰ y (filtered_children filter f p))
          → Memᴰ y (filtered_children filter f p)
      go true b k =
          let is : q ≡ p = same_Some q p (sym (first_included_lem filter q up (same ∙ include_is (own_filter v q) b)) ∙ found) in
          subst (λ (w : FullNodeId). Memᴰ y (flat_map (shown filter Following f) (child_ids f w))) is below
      go false b k =
          let passed : filter q ≡ ExcludeNode = same ∙ own_included v q parts.0 b in
          k (rw (shown_node filter Following f h q there passed) below) (sym (first_passed filter q up passed) ∙ found)

  module _ (x p : FullNodeId) (there : present f.nodes x ≡ true) (unhidden : is_hidden f x ≡ false) (plain : is_transparent f x ≡ false)
      (parent : filtered_parent filter f x ≡ Some p) where
    -- such a node is listed
    listed : filter x ≡ Include
    unfolding own_filter
    listed = own_filter_lem v x (clear_unhidden f x unhidden).1 ∙ go (is_focused v x)
      where
        go : (b : Bool) → (if b then Include else if hidden_at f x then ExcludeSubtree else if is_transparent f x then ExcludeNode else Include) ≡ Include
        go true = refl
        go false = rw ((clear_unhidden f x unhidden).0, plain) refl

    has_siblings : has_filtered_siblings filter f x ≡ true
    unfolding has_filtered_siblings filtered_parent
    has_siblings =
        let self : Memᴰ x (shown filter Following f x) = rw (shown_include filter Following f h x there listed) (mathlib.Core.List.Memᴰ.head refl) in
        let i = shown_above (ancestors f x) x x p refl (clear_unhidden f x unhidden).1 self parent in
        rw (parent, has_filtered_siblings) (not_nil (filtered_children filter f p) x i)

    -- its filtered siblings
    pub siblings_ahead : (side : Side) → filtered_siblings filter side f x ≡ shown_ahead v side (length (leading (is_excluded_node filter) (ancestors f x))) x
    unfolding filtered_siblings shown_ahead
    siblings_ahead side =
        rw (has_siblings, filtered_siblings)
        (ap (flat_map (shown filter side f)) (climbed_ahead filter side f x) ∙ own_ahead v h side _ x (clear_unhidden f x unhidden).1)
