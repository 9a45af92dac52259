-- A way up that is as long as there are nodes goes round in a circle. Assumes nothing.
use mathlib.Core.Bool.{true, false, not, true≢false, false≢true}
use mathlib.Core.List.Memᴰ
use mathlib.Core.List.{List, [], ◌∷◌, Memᴰ}
use mathlib.Core.Logic.{⊎_elim}
use mathlib.Core.Path.{◌≡◌, refl, sym, ap, ◌∙◌, subst}
use Prim.Native.Nat.{ℕ, suc, ◌≤◌, ◌<◌}
use native.Mathlib.Omega.{arith}
use lib.ListN.{length, length-map}
use Rattle.base.specs.Tests.{◌and◌, keep, has, distinct}
use Rattle.base.proofs.Cases.{by_test}
use Rattle.base.proofs.Tests.{both, joined, not_true, or_false}
use Rattle.ids.specs.Ids.{same_id}
use Rattle.ids.proofs.Ids.{same_id→≡, same_id_sym}
use Rattle.ids.specs.declared.FullNodeId.{FullNodeId}
use Rattle.state.specs.State.{ParentAndIndex, NodeState, Forest, ids_of}
use Rattle.state.proofs.State.{present_has}
use Rattle.reasons.specs.Breaks.{At, at_head, at_tail, Up, there, step, Unmet, UnmetUp, Circle}
use Rattle.reasons.proofs.Lists.{has_member, keep_passes, keep_member}
use Rattle.reasons.proofs.Places.{member_at}

-- ## More ids than places

-- all ids but y
abbrev but : FullNodeId → List FullNodeId → List FullNodeId
but y xs = keep (λ x. not (same_id y x)) xs

but_absent : (y : FullNodeId) (xs : List FullNodeId) → has same_id xs y ≡ false → length (but y xs) ≡ length xs
but_absent y [] e = refl
but_absent y (x ∷ xs) e = let z = or_false (same_id y x) e in let h = but_absent y xs z.1 in rw z.0 (omega arith)

-- of ids that differ y is one at most
but_length : (y : FullNodeId) (xs : List FullNodeId) → distinct same_id xs ≡ true → length xs ≤ suc (length (but y xs))
but_length y [] e = omega arith
but_length y (x ∷ xs) e =
    by_test (same_id y x)
    (λ t. let h = but_absent y xs (rw (same_id→≡ y x t) (not_true (both e).0)) in rw t (omega arith))
    (λ t. let h = but_length y xs (both e).1 in rw t (omega arith))

but_has : (y x : FullNodeId) (xs : List FullNodeId) → has same_id xs x ≡ false → has same_id (but y xs) x ≡ false
but_has y x [] e = refl
but_has y x (z ∷ zs) e =
    let a = or_false (same_id x z) e in let h = but_has y x zs a.1 in by_test (same_id y z) (λ t. rw t h) (λ t. rw (t, a.0) h)

but_distinct : (y : FullNodeId) (xs : List FullNodeId) → distinct same_id xs ≡ true → distinct same_id (but y xs) ≡ true
but_distinct y [] e = refl
but_distinct y (x ∷ xs) e =
    let h = but_distinct y xs (both e).1 in
    by_test (same_id y x) (λ t. rw t h) (λ t. rw t (joined (ap not (but_has y x xs (not_true (both e).0))) h))

-- ids that differ and are all among some are no more than these
distinct_few : (ys xs : List FullNodeId) → distinct same_id xs ≡ true → ((x : FullNodeId) → Memᴰ x xs → has same_id ys x ≡ true) → length xs ≤ length ys
distinct_few [] [] e h = omega arith
distinct_few [] (x ∷ xs) e h = absurd (false≢true (h x (Memᴰ.head refl)))
distinct_few (y ∷ ys) xs e h =
    let rest = distinct_few ys (but y xs) (but_distinct y xs e)
    (λ x i. let other : same_id x y ≡ false = same_id_sym x y ∙ not_true (keep_passes (λ z. not (same_id y z)) xs x i) in
    rw other at (h x (keep_member (λ z. not (same_id y z)) xs x i))) in
    omega (arith, but_length y xs e)

-- an id that stands at two places
twice : (xs : List FullNodeId) → distinct same_id xs ≡ false → (z : FullNodeId) × (i j : ℕ) × (i < j) × At z xs i × At z xs j
twice [] e = absurd (true≢false e)
twice (x ∷ xs) e =
    by_test (has same_id xs x)
    (λ t. let m = member_at (has_member xs x t) in (x, 0, suc m.0, omega arith, at_head refl, at_tail m.1))
    (λ t. let z = twice xs (unfold ◌and◌ in (rw t at e)) in (z.0, suc z.1, suc z.2, omega (arith, z.3), at_tail z.4, at_tail z.5))

-- ## The nodes on a way up

module _ {ns : List NodeState} {P : FullNodeId → ParentAndIndex → Type 0} where
  visited : {k : ℕ} {x y : FullNodeId} → Up ns P k x y → List FullNodeId
  visited {x} there = x ∷ []
  visited {x} (step l q p u) = x ∷ visited u

  visited_length : {k : ℕ} {x y : FullNodeId} (u : Up ns P k x y) → length (visited u) ≡ suc k
  unfolding visited
  visited_length there = refl
  visited_length (step l q p u) = let h = visited_length u in omega arith

  -- up to one of them
  up_to : {k j : ℕ} {x y w : FullNodeId} (u : Up ns P k x y) → At w (visited u) j → (m : ℕ) × Up ns P m x w
  unfolding visited
  up_to {w = w} there (at_tail {i = i} a) = elim a [ ]
  up_to {x} there (at_head q) = (0, subst (λ (z : FullNodeId). Up ns P 0 x z) (sym q) there)
  up_to {x} (step l q p u) (at_head r) = (0, subst (λ (z : FullNodeId). Up ns P 0 x z) (sym r) there)
  up_to (step l q p u) (at_tail a) = let z = up_to u a in (suc z.0, step l q p z.1)

  -- from one of them in one step or more up to a later one
  between : {k i j : ℕ} {x y z w : FullNodeId} (u : Up ns P k x y) → At z (visited u) i → At w (visited u) j → i < j → (m : ℕ) × Up ns P (suc m) z w
  unfolding visited
  between there (at_head q) (at_head r) l = absurd (omega arith)
  between there (at_head q) (at_tail a) l = elim a [ ]
  between there (at_tail a) _ l = elim a [ ]
  between {w} (step n q p u) (at_head r) (at_tail a) l =
      let v = up_to u a in (v.0, subst (λ (z : FullNodeId). Up ns P (suc v.0) z w) (sym r) (step n q p v.1))
  between (step n q p u) (at_head r) (at_head t) l = absurd (omega arith)
  between (step n q p u) (at_tail a) (at_head t) l = absurd (omega arith)
  between (step n q p u) (at_tail a) (at_tail c) l = between u a c (omega arith)

-- ## The circle

module _ (s : Forest) where
  visited_unmet : {k : ℕ} {x y : FullNodeId} (u : UnmetUp s k x y) → Unmet s x → (z : FullNodeId) → Memᴰ z (visited u) → Unmet s z
  unfolding visited
  visited_unmet there h z i = ⊎_elim (λ q. rw q h) (λ j. absurd (Memᴰ.not-nil j)) (Memᴰ.cases_cons i)
  visited_unmet (step l q p u) h z i = ⊎_elim (λ r. rw r h) (λ j. visited_unmet u p z j) (Memᴰ.cases_cons i)

  -- as many steps as there are nodes, each to a node never met, come to one of them twice
  pub circle : (x y : FullNodeId) → Unmet s x → UnmetUp s (length s.nodes) x y → Circle s x
  unfolding ids_of
  circle x y h u =
      by_test (distinct same_id (visited u))
      (λ t. let few = distinct_few (ids_of s.nodes) (visited u) t (λ z i. sym (present_has s.nodes z) ∙ (visited_unmet u h z i).0) in
      let n : length (ids_of s.nodes) ≡ length s.nodes = rw length-map in
      absurd (omega (arith, visited_length u)))
      (λ t. let z = twice (visited u) t in
      let up = up_to u z.4 in
      let round = between u z.4 z.5 z.3 in
      record { node = z.0; steps = up.0; more = round.0; above = up.1; back = round.1 })
