-- Laws of places in a list, and of nodes in order. Assumes nothing.
use mathlib.Core.Bool.{true}
use mathlib.Core.List.{List, [], ◌∷◌, ◌++◌, Memᴰ}
use mathlib.Core.Path.{◌≡◌, refl, sym, ◌∙◌}
use Prim.Native.Nat.{ℕ, zero, suc, ◌+◌, ◌<◌}
use native.Mathlib.Nat.{add-zero, zero-add}
use native.Mathlib.Omega.{arith}
use lib.ListN.{length}
use Rattle.base.proofs.Tests.{both, all_member}
use Rattle.ids.specs.Ids.{before}
use Rattle.state.specs.State.{NodeState}
use Rattle.state.specs.Sound.{ascending}
use Rattle.reasons.specs.Breaks.{At, at_head, at_tail}

module _ {A : Type 0} where
  -- a member stands at a place
  pub member_at : {x : A} {xs : List A} → Memᴰ x xs → (i : ℕ) × At x xs i
  member_at (Memᴰ.head q) = (zero, at_head q)
  member_at (Memᴰ.tail i) = let z = member_at i in (suc z.0, at_tail z.1)

  -- what stands at a place is a member
  pub at_member : {x : A} {xs : List A} {i : ℕ} → At x xs i → Memᴰ x xs
  at_member (at_head q) = Memᴰ.head q
  at_member (at_tail i) = Memᴰ.tail (at_member i)

  -- one element at a place
  pub at_same : {x y : A} {xs : List A} {i : ℕ} → At x xs i → At y xs i → x ≡ y
  at_same (at_head p) (at_head q) = p ∙ sym q
  at_same (at_tail i) (at_tail j) = at_same i j

  -- what stands at a place before the end of the first list stands in it
  pub at_before : {x : A} (xs ys : List A) {i : ℕ} → At x (xs ++ ys) i → i < length xs → At x xs i
  at_before [] ys i l = absurd (omega arith)
  at_before (z ∷ xs) ys (at_head q) l = at_head q
  at_before (z ∷ xs) ys (at_tail i) l = at_tail (at_before xs ys i (omega arith))

  -- a place is below the length
  pub at_below : {x : A} {xs : List A} {i : ℕ} → At x xs i → i < length xs
  at_below (at_head q) = omega arith
  at_below (at_tail i) = omega (arith, at_below i)

  -- xs are the elements of a list from place k on
  pub record From (k : ℕ) (xs all : List A) : Type 0 where
    pub place : (x : A) (j : ℕ) → At x xs j → At x all (k + j)

  pub from_start : (xs : List A) → From 0 xs xs
  from_start xs = record { place = λ x j i. rw zero-add i }

  -- the first of them
  pub from_head : {k : ℕ} {x : A} {xs all : List A} → From k (x ∷ xs) all → At x all k
  from_head {k} {x} h = rw add-zero at (h.place x zero (at_head refl))

  -- the others
  pub from_tail : {k : ℕ} {x : A} {xs all : List A} → From k (x ∷ xs) all → From (suc k) xs all
  from_tail {k} h = record { place = λ y j i. let q : k + suc j ≡ suc k + j = omega arith in rw q at (h.place y (suc j) (at_tail i)) }

-- of two nodes in order the one in the earlier slot comes before the other
pub ascending_places : {n m : NodeState} {ns : List NodeState} {i j : ℕ} → ascending ns ≡ true → At n ns i → At m ns j → i < j → before n.id m.id ≡ true
unfolding ascending
ascending_places e (at_head p) (at_head q) l = absurd (omega arith)
ascending_places {m} {ns = k ∷ ns} e (at_head p) (at_tail j) l = rw p (all_member (λ z. before k.id z.id) ns m (both e).0 (at_member j))
ascending_places e (at_tail i) (at_head q) l = absurd (omega arith)
ascending_places e (at_tail i) (at_tail j) l = ascending_places (both e).1 i j (omega arith)
