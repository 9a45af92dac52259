-- A walk meets no more nodes than there are, so its list is no longer. Assumes nothing.
use mathlib.Core.Bool.{Bool, true, false}
use mathlib.Core.List.{List, [], ◌∷◌, ◌++◌, map, reverse, flat_map, map-append, reverse-cons, Memᴰ}
use mathlib.Core.Path.{◌≡◌, refl, sym, ap, ◌∙◌, subst}
use Prim.Native.Nat.{ℕ, zero, suc, ◌+◌, ◌≤◌, ◌<◌}
use native.Mathlib.Omega.{arith}
use lib.ListN.{length, get_or, take, drop, length-append, take-append-drop}
use lib.Seq.{drop-cons, take-suc}
use borrow.Author.Tests.{leb-true}
use Rattle.std.specs.Prelude.{if◌then◌else◌, Option, None, Some}
use Rattle.base.proofs.Sums.{sum_over, sum_most}
use Rattle.ids.specs.declared.FullNodeId.{FullNodeId}
use Rattle.state.specs.State.{ParentAndIndex, Forest, present, link_at}
use Rattle.state.specs.Down.{Met, below_id, down, way_down, climb}
use Rattle.state.proofs.Sound.{Shape, Root, root_of_shape}
use Rattle.state.proofs.Down.{Descent, descent, way_down_from}
use Rattle.state.proofs.Family.{parent_present}
use Rattle.questions.specs.declared.Side.{Side}
use Rattle.questions.specs.declared.Side.TheVariants.{Following, Preceding}
use Rattle.questions.specs.declared.FilterResult.{FilterResult}
use Rattle.questions.specs.declared.FilterResult.TheVariants.{Include, ExcludeNode, ExcludeSubtree}
use Rattle.questions.specs.Links.{child_ids, beside, siblings, ancestors}
use Rattle.questions.specs.Walks.{turned, leading, shown_within, shown, is_excluded_node, climbed, has_filtered_siblings, filtered_siblings}
use Rattle.questions.specs.Ahead.{ahead}
use Rattle.questions.proofs.Links.{link_child, ancestors_step, ancestors_few}
use Rattle.questions.proofs.Ahead.{siblings_of, ahead_top}
use Rattle.questions.proofs.Walks.{gather}
use Rattle.questions.proofs.Shown.{everything, mass, mass_step, mass_into, mass_past, climbed_ahead}

-- ## Sums over parts of a list

flat_length : {A B : Type 0} (f : A → List B) (xs : List A) → length (flat_map f xs) ≡ sum_over (λ x. length (f x)) xs
unfolding flat_map
flat_length f [] = refl
flat_length f (x ∷ xs) = omega (arith, length-append (f x) (flat_map f xs), flat_length f xs)

module _ {A : Type 0} (f : A → ℕ) where
  sum_append : (xs ys : List A) → sum_over f (xs ++ ys) ≡ sum_over f xs + sum_over f ys
  sum_append [] ys = omega arith
  sum_append (x ∷ xs) ys = omega (arith, sum_append xs ys)

  sum_reverse : (xs : List A) → sum_over f (reverse xs) ≡ sum_over f xs
  sum_reverse [] = refl
  sum_reverse (x ∷ xs) = omega (arith, ap (sum_over f) (reverse-cons x xs), sum_append (reverse xs) (x ∷ []), sum_reverse xs)

-- an element and those beside it on one side sum to no more than all
sum_beside : (g : FullNodeId → ℕ) (side : Side) (xs : List FullNodeId) (i : ℕ) (x : FullNodeId) → i < length xs → get_or xs i x ≡ x
    → g x + sum_over g (beside side i xs) ≤ sum_over g xs
unfolding beside
sum_beside g Following xs i x l e =
    let from : drop i xs ≡ x ∷ drop (suc i) xs = drop-cons xs i x l ∙ ap (λ (y : FullNodeId). y ∷ drop (suc i) xs) e in
    omega (arith, ap (sum_over g) (sym (take-append-drop i xs)), sum_append g (take i xs) (drop i xs), ap (sum_over g) from)
sum_beside g Preceding xs i x l e =
    let up : take (suc i) xs ≡ take i xs ++ (x ∷ []) = take-suc xs i x l ∙ ap (λ (y : FullNodeId). take i xs ++ (y ∷ [])) e in
    omega (
      arith,
      ap (sum_over g) (sym (take-append-drop (suc i) xs)),
      sum_append g (take (suc i) xs) (drop (suc i) xs),
      ap (sum_over g) up,
      sum_append g (take i xs) (x ∷ []),
      sum_reverse g (take i xs),
    )

-- ## What is met

module _ (side : Side) (s : Forest) where
  abbrev weight : FullNodeId → ℕ
  weight x = length (everything side s x)

  mass_sum : (xs : List FullNodeId) → mass side s xs ≡ sum_over weight xs
  unfolding mass
  mass_sum xs = flat_length (everything side s) xs

  sum_turned : (xs : List FullNodeId) → sum_over weight (turned side xs) ≡ sum_over weight xs
  unfolding turned
  sum_turned xs = go side
    where
      go : (c : Side) → sum_over weight (turned c xs) ≡ sum_over weight xs
      go Following = refl
      go Preceding = sum_reverse weight xs

  module _ (h : Shape s) where
    r : Root s
    r = root_of_shape s h

    d : Descent s r.root
    d = descent s h r

    -- a node, and what is below it
    weight_is : (x : FullNodeId) → present s.nodes x ≡ true → weight x ≡ suc (sum_over weight (child_ids s x))
    weight_is x there =
        omega (arith, ap length (mass_step side s h x there []), flat_length (everything side s) (turned side (child_ids s x)), sum_turned (child_ids s x))

    -- the way down meets as many as there are below where it starts
    abbrev ids : List Met → List FullNodeId
    ids ms = map (λ m. m.id) ms

    down_sum : (room : ℕ) (ms : List Met) → length (down room s ms) < room
        → ((m : Met) → Memᴰ m (down room s ms) → present s.nodes m.id ≡ true) → sum_over weight (ids ms) ≡ length (down room s ms)
    unfolding down child_ids
    down_sum zero ms l there = absurd (omega arith)
    down_sum (suc room) [] l there = refl
    down_sum (suc room) (m ∷ ms) l there =
        omega (
          arith,
          weight_is m.id (there m (Memᴰ.head refl)),
          down_sum room (below_id s m.id ++ ms) (omega arith) (λ k i. there k (Memᴰ.tail i)),
          ap (sum_over weight) (map-append (λ (m : Met). m.id) (below_id s m.id) ms),
          sum_append weight (ids (below_id s m.id)) (ids ms),
        )

    root_few : weight r.root ≤ length s.nodes
    root_few =
        let start : List Met = record { id = r.root; link = None } ∷ [] in
        let way = way_down_from s r.root r.is_the_root in
        let few = leb-true (length (way_down s)) (length s.nodes) h.ends in
        omega (
          arith,
          down_sum (suc (length s.nodes)) start (omega (arith, ap length way)) (λ m i. d.only m (rw way i)),
          ap length way,
        )

    -- a node without a link is the root
    climb_top : (k : ℕ) (x : FullNodeId) → link_at s.nodes x ≡ None → climb k s.nodes x ≡ x
    unfolding climb
    climb_top zero x q = refl
    climb_top (suc k) x q = rw (q, climb) refl

    top_root : (x : FullNodeId) → present s.nodes x ≡ true → link_at s.nodes x ≡ None → x ≡ r.root
    top_root x there q = let z = d.climbs x there in sym (climb_top z.0 x q) ∙ z.2

    -- ## Climbing

    abbrev Few : ℕ → FullNodeId → Type 0
    Few level x = weight x + sum_over weight (ahead side s level x) ≤ length s.nodes

    -- what is ahead of a node and of its parent
    up_sum : (level : ℕ) (x : FullNodeId) (l : ParentAndIndex) → link_at s.nodes x ≡ Some l → ((j : ℕ) → Few j l.parent) → Few level x
    unfolding ahead flat_map
    up_sum level x l q few = go level
      where
        c : (l.index < length (child_ids s l.parent)) × (get_or (child_ids s l.parent) l.index x ≡ x)
        c = link_child s h x l x q

        aside : weight x + sum_over weight (siblings side s x) < weight l.parent
        aside =
            omega (
              arith,
              ap (sum_over weight) (siblings_of side s x l q),
              sum_beside weight side (child_ids s l.parent) l.index x c.0 c.1,
              weight_is l.parent (parent_present s h x l q),
            )

        rest : (k : ℕ) → ahead side s (suc k) x ≡ siblings side s x ++ ahead side s k l.parent
        rest k = rw (ancestors_step s h x l q) refl

        go : (k : ℕ) → Few k x
        go zero = omega (arith, aside, few 0, sum_append weight (siblings side s x) [])
        go (suc k) = omega (arith, aside, few k, ap (sum_over weight) (rest k), sum_append weight (siblings side s x) (ahead side s k l.parent))

    -- by how far it is to the root
    abbrev FewFrom : ℕ → Type 0
    FewFrom k = (level : ℕ) (x : FullNodeId) → present s.nodes x ≡ true → length (ancestors s x) ≤ k → Few level x

    few_at : (k : ℕ) → ((j : ℕ) → k ≡ suc j → FewFrom j) → FewFrom k
    few_at k before level x there deep = go (link_at s.nodes x) refl k before deep
      where
        go : (o : Option ParentAndIndex) → link_at s.nodes x ≡ o → (k : ℕ) → ((j : ℕ) → k ≡ suc j → FewFrom j) → length (ancestors s x) ≤ k → Few level x
        go None q k before deep = omega (arith, root_few, ap weight (top_root x there q), ap (sum_over weight) (ahead_top side s h level x q))
        go (Some l) q zero before deep = absurd (omega (arith, ap length (ancestors_step s h x l q)))
        go (Some l) q (suc k) before deep =
            up_sum level x l q (λ j. before k refl j l.parent (parent_present s h x l q) (omega (arith, ap length (ancestors_step s h x l q))))

    few_from : (k : ℕ) → FewFrom k
    few_from zero = few_at zero (λ j e. absurd (omega arith))
    few_from (suc k) = few_at (suc k) (λ j e. subst FewFrom (omega arith) (few_from k))

    -- a node and what is ahead of it are no more than there are nodes
    pub met_few : (level : ℕ) (x : FullNodeId) → present s.nodes x ≡ true → mass side s (x ∷ ahead side s level x) ≤ length s.nodes
    met_few level x there = rw mass_sum (few_from (length (ancestors s x)) level x there (omega arith))

  -- ## What is listed

  abbrev all_below : ℕ → FullNodeId → List FullNodeId
  all_below room x = gather (λ y. y ∷ []) (λ y. turned side (child_ids s y)) room x

  -- a run is no longer than what is met from it
  weight_some : 1 ≤ length s.nodes → (x : FullNodeId) → 1 ≤ weight x
  unfolding everything gather
  weight_some l x = go (length s.nodes) l
    where
      go : (room : ℕ) → 1 ≤ room → 1 ≤ length (all_below room x)
      go zero l = absurd (omega arith)
      go (suc room) l = omega arith

  pub run_few : 1 ≤ length s.nodes → (xs : List FullNodeId) → length xs ≤ mass side s xs
  run_few l xs = rw mass_sum (go xs)
    where
      go : (ys : List FullNodeId) → length ys ≤ sum_over weight ys
      go [] = omega arith
      go (y ∷ ys) = omega (arith, weight_some l y, go ys)

  -- and so is what is shown of it
  module _ (filter : FullNodeId → FilterResult) where
    shown_fewer : (room : ℕ) (x : FullNodeId) → length (shown_within filter room side s x) ≤ length (all_below room x)
    unfolding shown_within gather
    shown_fewer zero x = omega arith
    shown_fewer (suc room) x = go (filter x) (shown_fewer room)
      where
        kids : List FullNodeId
        kids = turned side (child_ids s x)

        go : (r : FilterResult) → ((y : FullNodeId) → length (shown_within filter room side s y) ≤ length (all_below room y))
            → length {A = FullNodeId} (elim r as (λ _. List FullNodeId) [ Include ↦ x ∷ [] | ExcludeNode ↦ flat_map (shown_within filter room side s) kids | ExcludeSubtree ↦ [] ])
            ≤ suc (length (flat_map (all_below room) kids))
        go Include f = omega arith
        go ExcludeNode f =
            omega (
              arith,
              flat_length (shown_within filter room side s) kids,
              flat_length (all_below room) kids,
              sum_most (λ y. length (shown_within filter room side s y)) (λ y. length (all_below room y)) kids (λ y _. f y),
            )
        go ExcludeSubtree f = omega arith

    pub shown_few : (xs : List FullNodeId) → length (flat_map (shown filter side s) xs) ≤ mass side s xs
    unfolding shown everything
    shown_few xs =
        rw mass_sum (
        omega (
          arith,
          flat_length (shown filter side s) xs,
          sum_most (λ y. length (shown filter side s y)) weight xs (λ y _. shown_fewer (length s.nodes) y),
        )
        )

  -- so the lists of a walk are no longer than there are nodes
  module _ (h : Shape s) (x : FullNodeId) (there : present s.nodes x ≡ true) where
    pub siblings_few : length (siblings side s x) ≤ length s.nodes
    unfolding ahead flat_map
    siblings_few =
        omega (
          arith,
          ancestors_few s h x there,
          run_few (omega (arith, ancestors_few s h x there)) (x ∷ ahead side s 0 x),
          met_few h 0 x there,
          length-append (siblings side s x) [],
        )

    pub run_below_few : length (turned side (child_ids s x)) ≤ length s.nodes
    run_below_few =
        let below = turned side (child_ids s x) in
        omega (
          arith,
          run_few (omega (arith, ancestors_few s h x there)) (below ++ ahead side s 0 x),
          mass_into side s h x there (ahead side s 0 x),
          met_few h 0 x there,
          length-append below (ahead side s 0 x),
        )

    module _ (filter : FullNodeId → FilterResult) (level : ℕ) where
      pub ahead_few : length (flat_map (shown filter side s) (ahead side s level x)) ≤ length s.nodes
      ahead_few =
          omega (arith, shown_few filter (ahead side s level x), mass_past side s h x there (ahead side s level x), met_few h level x there)

    -- and so are the filtered siblings
    pub filtered_few : (filter : FullNodeId → FilterResult) → length (filtered_siblings filter side s x) ≤ length s.nodes
    unfolding filtered_siblings
    filtered_few filter = go (has_filtered_siblings filter s x)
      where
        go : (b : Bool) → length (if b then flat_map (shown filter side s) (flat_map (siblings side s) (climbed filter s x)) else []) ≤ length s.nodes
        go true = rw (climbed_ahead filter side s x) (ahead_few filter (length (leading (is_excluded_node filter) (ancestors s x))))
        go false = omega arith

pub kids_few : (s : Forest) → Shape s → (x : FullNodeId) → present s.nodes x ≡ true → length (child_ids s x) ≤ length s.nodes
unfolding turned
kids_few s h x there = run_below_few Following s h x there
