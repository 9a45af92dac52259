-- The way of a walk: what is ahead of a node on one side, some levels up, and how each step of a walk takes one node off it.
-- Assumes nothing.
use mathlib.Core.Bool.{true}
use Rattle.base.specs.Tests.{head_of}
use mathlib.Core.List.{List, [], ◌∷◌, ◌++◌, reverse, flat_map, append-nil, reverse-append}
use Rattle.std.specs.Prelude.{Option, None, Some}
use Rattle.std.proofs.lemmas.Option.{none-some, same_Some}
use mathlib.Core.Path.{◌≡◌, refl, sym, ap, ◌∙◌}
use Prim.Native.Nat.{ℕ, zero, suc, ◌≤◌, ◌<◌}
use native.Mathlib.Omega.{arith}
use lib.ListN.{length, get_or, take, drop}
use lib.Seq.{take-suc, take_all, take-nil}
use Rattle.ids.specs.declared.FullNodeId.{FullNodeId}
use Rattle.state.specs.State.{ParentAndIndex, Forest, present, link_at}
use Rattle.state.proofs.Sound.{Shape}
use Rattle.state.proofs.Family.{linked_present, parent_present}
use Rattle.questions.specs.declared.Side.{Side}
use Rattle.questions.specs.declared.Side.TheVariants.{Following, Preceding}
use Rattle.questions.specs.Links.{child_ids, beside, siblings, ancestors}
use Rattle.questions.specs.Walks.{turned}
use Rattle.questions.specs.Ahead.{ahead}
use Rattle.questions.proofs.Links.{child_link, link_child, ancestors_step, ancestors_end}

-- ## One step aside in a list

-- place j of a list holds y, and what is met from there on a side is y and then what stands beside it
pub record Next (side : Side) (xs met : List FullNodeId) (y : FullNodeId) : Type 0 where
  pub place : ℕ
  pub within : place < length xs
  pub holds : get_or xs place y ≡ y
  pub rest : met ≡ y ∷ beside side place xs

from_front : (k : ℕ) (xs : List FullNodeId) (y : FullNodeId) → head_of (drop k xs) ≡ Some y → Next Following xs (drop k xs) y
unfolding beside
from_front zero [] y e = absurd (none-some y e)
from_front (suc k) [] y e = absurd (none-some y e)
from_front zero (x ∷ xs) y e =
    let same = same_Some x y e in
    record { place = 0; within = omega arith; holds = same; rest = ap (λ (z : FullNodeId). z ∷ xs) same }
from_front (suc k) (x ∷ xs) y e =
    let n = from_front k xs y e in
    record { place = suc n.place; within = omega (arith, n.within); holds = n.holds; rest = n.rest }

from_back : (k : ℕ) (xs : List FullNodeId) (y : FullNodeId) → k ≤ length xs → head_of (reverse (take k xs)) ≡ Some y
    → Next Preceding xs (reverse (take k xs)) y
unfolding beside
from_back zero xs y l e = absurd (none-some y e)
from_back (suc k) xs y l e =
    let last : reverse (take (suc k) xs) ≡ get_or xs k y ∷ reverse (take k xs) = rw (take-suc xs k y, reverse-append) refl in
    let same = same_Some (get_or xs k y) y (ap head_of (sym last) ∙ e) in
    record { place = k; within = omega arith; holds = same; rest = last ∙ ap (λ (z : FullNodeId). z ∷ reverse (take k xs)) same }

-- what stands beside place i begins with the element next to it, and goes on with what stands beside that
pub beside_head : (side : Side) (i : ℕ) (xs : List FullNodeId) (y : FullNodeId) → i < length xs → head_of (beside side i xs) ≡ Some y
    → Next side xs (beside side i xs) y
unfolding beside
beside_head Following i xs y l e = from_front (suc i) xs y e
beside_head Preceding i xs y l e = from_back i xs y (omega arith) e

-- a run begins with one of its elements, and goes on with what stands beside that
pub turned_head : (side : Side) (xs : List FullNodeId) (y : FullNodeId) → head_of (turned side xs) ≡ Some y → Next side xs (turned side xs) y
unfolding turned
turned_head Following xs y e = from_front 0 xs y e
turned_head Preceding xs y e =
    let whole : take (length xs) xs ≡ xs = take_all (length xs) xs (omega arith) in
    rw whole at (from_back (length xs) xs y (omega arith) (rw whole e))

-- ## One step aside, down and up

-- the siblings by the link
pub siblings_of : (side : Side) (s : Forest) (x : FullNodeId) (l : ParentAndIndex) → link_at s.nodes x ≡ Some l
    → siblings side s x ≡ beside side l.index (child_ids s l.parent)
unfolding siblings
siblings_of side s x l q = rw (q, siblings) refl

pub siblings_none : (side : Side) (s : Forest) (x : FullNodeId) → link_at s.nodes x ≡ None → siblings side s x ≡ []
unfolding siblings
siblings_none side s x q = rw (q, siblings) refl

module _ (side : Side) (s : Forest) (h : Shape s) where
  -- y is met next, and is present
  pub record Steps (met : List FullNodeId) (level : ℕ) (y : FullNodeId) : Type 0 where
    pub there : present s.nodes y ≡ true
    pub rest : met ≡ y ∷ ahead side s level y

  -- an element of the children of p at a place, with what is met from there on
  next_child : (p : FullNodeId) (met : List FullNodeId) (y : FullNodeId) → present s.nodes p ≡ true → Next side (child_ids s p) met y
      → (present s.nodes y ≡ true) × (ancestors s y ≡ p ∷ ancestors s p) × (met ≡ y ∷ siblings side s y)
  next_child p met y there n =
      let l : ParentAndIndex = record { parent = p; index = n.place } in
      let linked : link_at s.nodes y ≡ Some l = rw n.holds at (child_link s h p n.place y there n.within) in (
        linked_present s.nodes y l linked,
        ancestors_step s h y l linked,
        n.rest ∙ ap (λ (zs : List FullNodeId). y ∷ zs) (sym (siblings_of side s y l linked)),
      )

  -- to the next sibling
  pub ahead_aside : (level : ℕ) (x y : FullNodeId) → head_of (siblings side s x) ≡ Some y → Steps (ahead side s level x) level y
  unfolding ahead flat_map
  ahead_aside level x y e = go (link_at s.nodes x) refl
    where
      go : (o : Option ParentAndIndex) → link_at s.nodes x ≡ o → Steps (ahead side s level x) level y
      go None q = absurd (none-some y (ap head_of (sym (siblings_none side s x q)) ∙ e))
      go (Some l) q =
          let same = siblings_of side s x l q in
          let next = beside_head side l.index (child_ids s l.parent) y (link_child s h x l y q).0 (rw same at e) in
          let c = next_child l.parent _ y (parent_present s h x l q) next in
          let up : ancestors s x ≡ ancestors s y = ancestors_step s h x l q ∙ sym c.1 in
          record { there = c.0; rest = rw (same, c.2, up) refl }

  -- into a node: to its first child on this side
  pub ahead_into : (level : ℕ) (x y : FullNodeId) → present s.nodes x ≡ true → head_of (turned side (child_ids s x)) ≡ Some y
      → Steps (turned side (child_ids s x) ++ ahead side s level x) (suc level) y
  unfolding ahead flat_map
  ahead_into level x y there e =
      let c = next_child x _ y there (turned_head side (child_ids s x) y e) in
      record { there = c.0; rest = rw (c.2, c.1) refl }

  -- to the first child, with nothing ahead but the other children
  pub ahead_children : (x y : FullNodeId) → present s.nodes x ≡ true → head_of (turned side (child_ids s x)) ≡ Some y
      → turned side (child_ids s x) ≡ y ∷ ahead side s 0 y
  unfolding ahead flat_map
  ahead_children x y there e =
      (next_child x _ y there (turned_head side (child_ids s x) y e)).2 ∙ ap (λ (zs : List FullNodeId). y ∷ zs) (sym (append-nil (siblings side s y)))

  -- up to the parent, where no sibling is left
  pub ahead_up : (level : ℕ) (x : FullNodeId) (l : ParentAndIndex) → link_at s.nodes x ≡ Some l → siblings side s x ≡ []
      → ahead side s (suc level) x ≡ ahead side s level l.parent
  unfolding ahead flat_map
  ahead_up level x l q e = rw (e, ancestors_step s h x l q) refl

  -- the end: no sibling and no level left, or no parent
  pub ahead_end : (x : FullNodeId) → siblings side s x ≡ [] → ahead side s 0 x ≡ []
  unfolding ahead flat_map
  ahead_end x e = rw e refl

  pub ahead_top : (level : ℕ) (x : FullNodeId) → link_at s.nodes x ≡ None → ahead side s level x ≡ []
  unfolding ahead flat_map
  ahead_top level x q = rw (siblings_none side s x q, ancestors_end s h x q) (ap (flat_map (siblings side s)) (take-nil level))
