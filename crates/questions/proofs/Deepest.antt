-- Each filtered child is deeper than its parent, so the steps to the deepest one end. Assumes nothing.
use mathlib.Core.Bool.{true}
use Rattle.base.specs.Tests.{head_of}
use mathlib.Core.List.Memᴰ
use mathlib.Core.List.{List, [], ◌∷◌, flat_map, Memᴰ}
use Rattle.std.specs.Prelude.{Option, None, Some}
use Rattle.std.proofs.lemmas.Option.{none-some, same_Some}
use mathlib.Core.Path.{◌≡◌, refl, sym, ap, ◌∙◌, subst}
use Prim.Native.Nat.{ℕ, zero, suc, ◌+◌, ◌≤◌}
use native.Mathlib.Omega.{arith}
use lib.ListN.{length}
use Rattle.ids.specs.declared.FullNodeId.{FullNodeId}
use Rattle.state.specs.State.{Forest, present}
use Rattle.state.proofs.Sound.{Shape}
use Rattle.questions.specs.declared.Side.{Side}
use Rattle.questions.specs.declared.Side.TheVariants.{Following}
use Rattle.questions.specs.declared.FilterResult.{FilterResult}
use Rattle.questions.specs.declared.FilterResult.TheVariants.{Include, ExcludeNode, ExcludeSubtree}
use Rattle.questions.specs.Links.{child_ids, ancestors}
use Rattle.questions.specs.Walks.{turned, shown_within, shown, or_else, deepest_within, filtered_children, first_filtered_child, last_filtered_child}
use Rattle.questions.proofs.Links.{member_child, ancestors_few}
use Rattle.questions.proofs.Flat.{flat_member, member_reverse}
use Rattle.questions.proofs.Walks.{turned_member}

module _ (s : Forest) (h : Shape s) where
  -- y is present, and at least as deep as k
  abbrev Deep : ℕ → FullNodeId → Type 0
  Deep k y = (present s.nodes y ≡ true) × (k ≤ length (ancestors s y))

  module _ (filter : FullNodeId → FilterResult) where
    shown_deep : (room : ℕ) (side : Side) (x y : FullNodeId) → present s.nodes x ≡ true → Memᴰ y (shown_within filter room side s x)
        → Deep (length (ancestors s x)) y
    unfolding shown_within
    shown_deep zero side x y there i = absurd (Memᴰ.not-nil i)
    shown_deep (suc room) side x y there i = go (filter x) i (λ z. shown_deep room side z y)
      where
        go : (r : FilterResult)
            → Memᴰ y (elim r as (λ _. List FullNodeId) [
              | Include ↦ x ∷ []
              | ExcludeNode ↦ flat_map (shown_within filter room side s) (turned side (child_ids s x))
              | ExcludeSubtree ↦ []
            ])
            → ((z : FullNodeId) → present s.nodes z ≡ true → Memᴰ y (shown_within filter room side s z) → Deep (length (ancestors s z)) y)
            → Deep (length (ancestors s x)) y
        go Include i f = subst (Deep (length (ancestors s x))) (sym (Memᴰ.eq_of_singleton i)) (there, omega arith)
        go ExcludeNode i f =
            let m = flat_member (shown_within filter room side s) (turned side (child_ids s x)) y i in
            let c = member_child s h x m.0 there (turned_member side (child_ids s x) m.0 m.1) in
            let d = f m.0 c.0 m.2 in
            (d.0, omega (arith, d.1, ap length c.1))
        go ExcludeSubtree i f = absurd (Memᴰ.not-nil i)

    pub filtered_deeper : (x y : FullNodeId) → present s.nodes x ≡ true → Memᴰ y (filtered_children filter s x) → Deep (suc (length (ancestors s x))) y
    unfolding filtered_children shown
    filtered_deeper x y there i =
        let m = flat_member (shown filter Following s) (child_ids s x) y i in
        let c = member_child s h x m.0 there m.1 in
        let d = shown_deep (length s.nodes) Following m.0 y c.0 m.2 in
        (d.0, omega (arith, d.1, ap length c.1))

  -- a step from a present node is to a deeper one
  abbrev pub Deepens : (FullNodeId → Option FullNodeId) → Type 0
  Deepens step = (x y : FullNodeId) → present s.nodes x ≡ true → step x ≡ Some y → Deep (suc (length (ancestors s x))) y

  head_member : (xs : List FullNodeId) (y : FullNodeId) → head_of xs ≡ Some y → Memᴰ y xs
  head_member [] y e = absurd (none-some y e)
  head_member (x ∷ xs) y e = Memᴰ.head (sym (same_Some x y e))

  pub first_deepens : (filter : FullNodeId → FilterResult) → Deepens (first_filtered_child filter s)
  unfolding first_filtered_child
  first_deepens filter x y there e = filtered_deeper filter x y there (head_member _ y e)

  pub last_deepens : (filter : FullNodeId → FilterResult) → Deepens (last_filtered_child filter s)
  unfolding last_filtered_child
  last_deepens filter x y there e = filtered_deeper filter x y there (member_reverse _ y (head_member _ y e))

  module _ (step : FullNodeId → Option FullNodeId) (deepens : Deepens step) where
    -- by the step
    by_none : (room : ℕ) (x : FullNodeId) → step x ≡ None → deepest_within room step x ≡ None
    unfolding deepest_within
    by_none zero x e = refl
    by_none (suc room) x e = rw (e, deepest_within) refl

    by_some : (room : ℕ) (x y : FullNodeId) → step x ≡ Some y → deepest_within (suc room) step x ≡ or_else y (deepest_within room step y)
    unfolding deepest_within
    by_some room x y e = rw (e, deepest_within) refl

    -- with room for the levels that there are, one more changes nothing
    deepest_more : (room : ℕ) (x : FullNodeId) → present s.nodes x ≡ true → length s.nodes ≤ room + length (ancestors s x)
        → deepest_within (suc room) step x ≡ deepest_within room step x
    deepest_more zero x there l = absurd (omega (arith, ancestors_few s h x there))
    deepest_more (suc room) x there l = go (step x) refl (deepest_more room)
      where
        go : (o : Option FullNodeId) → step x ≡ o
            → ((y : FullNodeId) → present s.nodes y ≡ true → length s.nodes ≤ room + length (ancestors s y)
            → deepest_within (suc room) step y ≡ deepest_within room step y)
            → deepest_within (suc (suc room)) step x ≡ deepest_within (suc room) step x
        go None e f = by_none (suc (suc room)) x e ∙ sym (by_none (suc room) x e)
        go (Some y) e f =
            let d = deepens x y there e in
            by_some (suc room) x y e ∙ ap (or_else y) (f y d.0 (omega (arith, l, d.1))) ∙ sym (by_some room x y e)

    -- the deepest from x: none where there is no step, else the deepest from the next, or the next itself
    pub deepest_none : (x : FullNodeId) → step x ≡ None → deepest_within (length s.nodes) step x ≡ None
    deepest_none x e = by_none (length s.nodes) x e

    pub deepest_step : (x y : FullNodeId) → present s.nodes x ≡ true → step x ≡ Some y
        → deepest_within (length s.nodes) step x ≡ or_else y (deepest_within (length s.nodes) step y)
    deepest_step x y there e = sym (deepest_more (length s.nodes) x there (omega arith)) ∙ by_some (length s.nodes) x y e
