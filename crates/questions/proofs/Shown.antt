-- What is still to be listed of a walk, and how each step of it changes that. Assumes nothing.
use mathlib.Core.Bool.{Bool, true, false}
use mathlib.Core.List.{List, [], ◌∷◌, ◌++◌, reverse, flat_map}
use mathlib.Core.Path.{◌≡◌, refl, sym, ap, ◌∙◌}
use Prim.Native.Nat.{ℕ, zero, suc, ◌<◌}
use native.Mathlib.Omega.{arith}
use lib.ListN.{length, length-append, take}
use Rattle.std.specs.Prelude.{if◌then◌else◌}
use Rattle.ids.specs.declared.FullNodeId.{FullNodeId}
use Rattle.state.specs.State.{Forest, present}
use Rattle.state.proofs.Sound.{Shape}
use Rattle.questions.specs.declared.Side.{Side}
use Rattle.questions.specs.declared.Side.TheVariants.{Following, Preceding}
use Rattle.questions.specs.declared.FilterResult.{FilterResult}
use Rattle.questions.specs.declared.FilterResult.TheVariants.{Include, ExcludeNode, ExcludeSubtree}
use Rattle.questions.specs.Links.{child_ids, siblings, ancestors}
use Rattle.questions.specs.Walks.{turned, leading, shown_within, shown, filtered_children, is_excluded_node, climbed}
use Rattle.questions.specs.Ahead.{ahead}
use Rattle.questions.proofs.Flat.{flat_append, flat_cong, flat_reverse}
use Rattle.questions.proofs.Walks.{gather, gather_step, turned_member, shown_include, shown_node, shown_subtree}

-- ## By what the filter says of the first node

module _ (filter : FullNodeId → FilterResult) (side : Side) (s : Forest) (h : Shape s) (x : FullNodeId) (there : present s.nodes x ≡ true)
    (ys : List FullNodeId) where
  pub list_include : filter x ≡ Include → flat_map (shown filter side s) (x ∷ ys) ≡ x ∷ flat_map (shown filter side s) ys
  unfolding flat_map
  list_include e = rw (shown_include filter side s h x there e) refl

  pub list_node : filter x ≡ ExcludeNode → flat_map (shown filter side s) (x ∷ ys) ≡ flat_map (shown filter side s) (turned side (child_ids s x) ++ ys)
  unfolding flat_map
  list_node e = rw (shown_node filter side s h x there e) (sym (flat_append (shown filter side s) (turned side (child_ids s x)) ys))

  pub list_subtree : filter x ≡ ExcludeSubtree → flat_map (shown filter side s) (x ∷ ys) ≡ flat_map (shown filter side s) ys
  unfolding flat_map
  list_subtree e = rw (shown_subtree filter side s h x there e) refl

-- ## How many nodes a walk can still meet

-- a node and all below it
unfoldable pub everything : Side → Forest → FullNodeId → List FullNodeId
everything side s x = gather (λ y. y ∷ []) (λ y. turned side (child_ids s y)) (length s.nodes) x

unfoldable pub mass : Side → Forest → List FullNodeId → ℕ
mass side s xs = length (flat_map (everything side s) xs)

module _ (side : Side) (s : Forest) (h : Shape s) (x : FullNodeId) (there : present s.nodes x ≡ true) (ys : List FullNodeId) where
  pub mass_step : everything side s x ≡ x ∷ flat_map (everything side s) (turned side (child_ids s x))
  unfolding everything
  mass_step = gather_step s h (λ y. y ∷ []) (λ y. turned side (child_ids s y)) (λ y z i. turned_member side (child_ids s y) z i) x there

  -- into a node, and past it
  pub mass_into : mass side s (turned side (child_ids s x) ++ ys) < mass side s (x ∷ ys)
  unfolding mass everything flat_map
  mass_into =
      omega (
        arith,
        ap length (flat_append (everything side s) (turned side (child_ids s x)) ys),
        length-append (flat_map (everything side s) (turned side (child_ids s x))) (flat_map (everything side s) ys),
        length-append (everything side s x) (flat_map (everything side s) ys),
        ap length (mass_step),
      )

  pub mass_past : mass side s ys < mass side s (x ∷ ys)
  unfolding mass everything flat_map
  mass_past = omega (arith, length-append (everything side s x) (flat_map (everything side s) ys), ap length mass_step)

-- ## The last filtered child is the first from the end

shown_reverse : (filter : FullNodeId → FilterResult) (s : Forest) (room : ℕ) (x : FullNodeId)
    → reverse (shown_within filter room Following s x) ≡ shown_within filter room Preceding s x
unfolding shown_within turned
shown_reverse filter s zero x = refl
shown_reverse filter s (suc room) x = go (filter x) refl (shown_reverse filter s room)
  where
    go : (r : FilterResult) → filter x ≡ r → ((y : FullNodeId) → reverse (shown_within filter room Following s y) ≡ shown_within filter room Preceding s y)
        → reverse (shown_within filter (suc room) Following s x) ≡ shown_within filter (suc room) Preceding s x
    go Include e f = rw (e, shown_within) refl
    go ExcludeNode e f =
        rw (e, shown_within)
        (flat_reverse (shown_within filter room Following s) (child_ids s x)
        ∙ flat_cong (λ y. reverse (shown_within filter room Following s y)) (shown_within filter room Preceding s) (reverse (child_ids s x)) (λ y _. f y))
    go ExcludeSubtree e f = rw (e, shown_within) refl

pub children_reverse : (filter : FullNodeId → FilterResult) (s : Forest) (x : FullNodeId)
    → reverse (filtered_children filter s x) ≡ flat_map (shown filter Preceding s) (turned Preceding (child_ids s x))
unfolding filtered_children shown turned
children_reverse filter s x =
    flat_reverse (shown filter Following s) (child_ids s x)
    ∙ flat_cong (λ y. reverse (shown filter Following s y)) (shown filter Preceding s) (reverse (child_ids s x)) (λ y _. shown_reverse filter s (length s.nodes) y)

-- ## Climbing while the parent is ExcludeNode

leading_take : (p : FullNodeId → Bool) (xs : List FullNodeId) → leading p xs ≡ take (length (leading p xs)) xs
unfolding leading
leading_take p [] = refl
leading_take p (x ∷ xs) = go (p x) (leading_take p xs)
  where
    go : (c : Bool) → leading p xs ≡ take (length (leading p xs)) xs
        → (if c then x ∷ leading p xs else []) ≡ take (length (if c then x ∷ leading p xs else [])) (x ∷ xs)
    go true e = ap (λ (ys : List FullNodeId). x ∷ ys) e
    go false e = refl

-- the siblings of those climbed to are what is ahead, as many levels up as are ExcludeNode
pub climbed_ahead : (filter : FullNodeId → FilterResult) (side : Side) (s : Forest) (x : FullNodeId)
    → flat_map (siblings side s) (climbed filter s x) ≡ ahead side s (length (leading (is_excluded_node filter) (ancestors s x))) x
unfolding climbed ahead
climbed_ahead filter side s x = ap (λ (up : List FullNodeId). flat_map (siblings side s) (x ∷ up)) (leading_take (is_excluded_node filter) (ancestors s x))
