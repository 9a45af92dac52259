-- The smallest of some ids, with one id more, and the absent ids below nodes. Assumes nothing.
use mathlib.Core.Bool.{Bool, true, false, not}
use mathlib.Core.List.{List, [], ◌∷◌, ◌++◌, map, append_assoc, append-nil}
use mathlib.Core.Path.{◌≡◌, refl, sym, ◌∙◌}
use Prim.Native.Nat.{ℕ, ◌+◌, ◌≤◌, ◌<◌}
use native.Mathlib.Omega.{arith}
use lib.ListN.{drop}
use borrow.Author.Tests.{lt-ltb, le-ltb}
use Rattle.std.specs.Prelude.{if◌then◌else◌, Option, None, Some}
use Rattle.base.specs.Tests.{keep, has}
use Rattle.base.specs.Bytes.{list_of}
use Rattle.base.specs.Search.{First}
use Rattle.base.proofs.Bytes.{list_of_more}
use Rattle.base.proofs.Cases.{by_test, by_option}
use Rattle.base.proofs.Tests.{clash, refuted}
use Rattle.ids.specs.Ids.{same_id, before}
use Rattle.ids.proofs.Ids.{same_id→≡, before_trans, before_total}
use Rattle.ids.specs.declared.FullNodeId.{FullNodeId}
use Rattle.reasons.specs.Shape.{smallest, ids_below, absent_ids, absence}
use Rattle.reasons_shape.specs.Reached.{Few, below_at}
use Rattle.reasons_shape.proofs.reached.Below.{below_end}
use Rattle.base.proofs.Gathering.{Gathered, gathered_start, gathered_more, gathered_end}
use Rattle.reasons_why.specs.Why.{why_broken}
use Rattle.reasons_why.specs.declared.Why.{Why}
use Rattle.state.specs.State.{NodeState, Forest, present}
use Rattle.state.specs.Down.{Met, met_under}
use Rattle.state_array.specs.View.{id_in, node_in, slots_of, view}
use Rattle.state_lookup.specs.Lookup.{stands_at}
use Rattle.state_lookup.proofs.Found.{present_slot}
use Rattle.state_rules.specs.Parts.{below_in, KidSays}
use Rattle.reasons_shape.specs.Rules.{rule_why, node_why}
use Rattle.reasons_shape.proofs.Slots.{spot_there, spot_nowhere}

-- ## The smaller of two

-- an id, or none, and another
abbrev smaller : Option FullNodeId → FullNodeId → Option FullNodeId
smaller None y = Some y
smaller (Some x) y = if before y x then Some y else Some x

-- what does not come before the smallest does not come before another
before_least : (x y z : FullNodeId) → before z x ≡ false → before y z ≡ false → before y x ≡ false
before_least x y z p q =
    refuted (λ h. by_test (same_id z x)
    (λ t. clash q (rw (same_id→≡ z x t) h))
    (λ t. clash q (before_trans y x z h (before_total z x t p))))

-- one id more
pub smallest_more : (xs : List FullNodeId) (y : FullNodeId) → smallest (xs ++ y ∷ []) ≡ smaller (smallest xs) y
unfolding smallest
smallest_more [] y = refl
smallest_more (x ∷ xs) y =
    rw (smallest_more xs y)
    (by_option (smallest xs) (λ e. rw e) (λ z e. rw e (by_test (before z x)
    (λ p. by_test (before y z) (λ q. rw (p, q, before_trans y z x q p)) (λ q. rw (p, q, p)))
    (λ p. by_test (before y z) (λ q. rw (p, q)) (λ q. rw (p, q, p, before_least x y z p q))))))

-- for each way out of `lesser`
module _ {least : Option FullNodeId} (y : FullNodeId) (xs : List FullNodeId) (e : least ≡ smallest xs) where
  pub lesser_only : least ≡ None → (Some y) ≡ smallest (xs ++ y ∷ [])
  lesser_only q = sym (smallest_more xs y ∙ rw (← e, q))

  module _ {x : FullNodeId} (q : least ≡ Some x) {r : Bool} (test : r ≡ before y x) where
    pub lesser_new : r ≡ true → (Some y) ≡ smallest (xs ++ y ∷ [])
    lesser_new h = sym (smallest_more xs y ∙ rw (← e, q, sym test ∙ h))

    pub lesser_old : r ≡ false → (Some x) ≡ smallest (xs ++ y ∷ [])
    lesser_old h = sym (smallest_more xs y ∙ rw (← e, q, sym test ∙ h))

-- ## Below one node

-- the absent ids among those met
abbrev pub absent_in : List ℕ → List Met → List FullNodeId
absent_in s ms = keep (λ x. not (present (view s).forest.nodes x)) (map (λ m. m.id) ms)

-- an id is the smallest of some, or there is none
abbrev pub Least : List FullNodeId → Option FullNodeId → Type 0
Least xs r = r ≡ smallest xs

-- the places before j have been looked at, from r₀ on
pub record Lessening (s : List ℕ) (p : ℕ) (r₀ : Option FullNodeId) (j : ℕ) (r : Option FullNodeId) : Type 0 where
  pub all : Gathered Least r₀ (absent_in s (below_in s p)) (absent_in s (drop j (below_in s p))) r

pub lessening_start : {s : List ℕ} {p : ℕ} {r : Option FullNodeId} → Lessening s p r 0 r
lessening_start = record { all = gathered_start }

-- the smallest of some ids and of the absent ones below a node
abbrev pub WithAbsent : List ℕ → ℕ → Option FullNodeId → Option FullNodeId → Type 0
WithAbsent s p r₀ r =
    (xs : List FullNodeId) → r₀ ≡ smallest xs
    → r ≡ smallest (xs ++ keep (λ x. not (present (view s).forest.nodes x)) (ids_below (view s).forest (node_in s p)))

module _ {s : List ℕ} {p j : ℕ} {r₀ r : Option FullNodeId} (g : Lessening s p r₀ j r) where
  -- past the last place
  pub lessening_end : Few s → p < slots_of s → 256 ≤ j → j ≤ 256 → WithAbsent s p r₀ r
  unfolding ids_below
  lessening_end few l h b = let e : j ≡ 256 = omega arith in gathered_end (rw (e, below_end s p few l) at g.all)

  -- what is met at the next place
  module _ {k : Option FullNodeId} (says : KidSays (below_in s p) j (id_in s p) k) where
    pub lessening_none : k ≡ None → WithAbsent s p r₀ r
    unfolding KidSays ids_below
    lessening_none q = gathered_end (rw (rw q at says) at g.all)

    module _ {y : FullNodeId} (q : k ≡ Some y) {n i : ℕ} (slots : n ≡ slots_of s) (found : First (stands_at s y) (slots_of s) i) where
      pub lessening_present : i < n → Lessening s p r₀ (j + 1) r
      unfolding KidSays met_under
      lessening_present h =
          let there : present (view s).forest.nodes y ≡ true = present_slot s y i found ∙ lt-ltb i (slots_of s) (rw slots at h) in
          record { all = rw (rw q at says, there) at g.all }

      pub lessening_absent : n ≤ i → {z : Option FullNodeId} → ((xs : List FullNodeId) → r ≡ smallest xs → z ≡ smallest (xs ++ y ∷ []))
          → Lessening s p r₀ (j + 1) z
      unfolding KidSays met_under
      lessening_absent h step =
          let away : present (view s).forest.nodes y ≡ false = present_slot s y i found ∙ le-ltb i (slots_of s) (rw slots at h) in
          record { all = gathered_more (rw (rw q at says, away) at g.all) step }

-- ## Below all nodes

-- one node more
absent_more : (f : Forest) (ns : List NodeState) (n : NodeState)
    → absent_ids f (ns ++ n ∷ []) ≡ absent_ids f ns ++ keep (λ x. not (present f.nodes x)) (ids_below f n)
unfolding absent_ids
absent_more f [] n = append-nil (keep (λ x. not (present f.nodes x)) (ids_below f n))
absent_more f (k ∷ ns) n =
    rw (absent_more f ns n) (sym (append_assoc (keep (λ x. not (present f.nodes x)) (ids_below f k)) (absent_ids f ns) _))

-- the nodes before slot p, of n, have been looked at
pub record Absences (s : List ℕ) (n p : ℕ) (r : Option FullNodeId) : Type 0 where
  pub within : p ≤ n
  pub told : r ≡ smallest (absent_ids (view s).forest (list_of p (node_in s)))

pub absences_start : {s : List ℕ} {n : ℕ} → Absences s n 0 None
unfolding absent_ids list_of smallest
absences_start = record { within = omega arith; told = refl }

module _ {s : List ℕ} {n p : ℕ} {r : Option FullNodeId} (g : Absences s n p r) where
  pub absences_more : p < n → {z : Option FullNodeId} → WithAbsent s p r z → Absences s n (p + 1) z
  absences_more l step =
      record { within = omega arith; told = rw (list_of_more p (node_in s), absent_more (view s).forest (list_of p (node_in s)) (node_in s p)) (step _ g.told) }

  pub absences_end : n ≡ slots_of s → n ≤ p → r ≡ smallest (absent_ids (view s).forest (view s).forest.nodes)
  unfolding view
  absences_end slots h = let last : p ≡ slots_of s = omega (arith, g.within) in rw last at g.told

-- ## Rule 4

module _ (s : List ℕ) {k : ℕ} {least : Option FullNodeId} (e : least ≡ smallest (absent_ids (view s).forest (view s).forest.nodes)) {w : Why} where
  pub absence_none : least ≡ None → w ≡ rule_why k 0 → w ≡ why_broken k (absence (view s).forest)
  unfolding why_broken absence
  absence_none q t = t ∙ rw (sym e ∙ q, absence)

  module _ {x : FullNodeId} (q : least ≡ Some x) {n p : ℕ} (slots : n ≡ slots_of s) (first : First (below_at s x) (slots_of s) p) where
    pub absence_nowhere : n ≤ p → w ≡ rule_why k 0 → w ≡ why_broken k (absence (view s).forest)
    unfolding why_broken absence below_at
    absence_nowhere h t =
        t ∙ rw (sym e ∙ q, absence, spot_nowhere s (λ m. has same_id (ids_below (view s).forest m) x) slots first h)

    pub absence_below : p < n → {y : Option FullNodeId} → y ≡ Some (id_in s p) → w ≡ node_why k 4 p (Some x) y None → w ≡ why_broken k (absence (view s).forest)
    unfolding why_broken absence below_at
    absence_below h is t =
        t ∙ rw (is, sym e ∙ q, absence, spot_there s (λ m. has same_id (ids_below (view s).forest m) x) slots first h)
