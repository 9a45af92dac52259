-- A reason's number is in its plain form, and so are the first reason of some. Assumes nothing.
use mathlib.Core.List.{List, ◌∷◌}
use Rattle.std.specs.Prelude.{Option, None, Some}
use mathlib.Core.Path.{◌≡◌, refl, sym, ap, ◌∙◌}
use Prim.Native.Nat.{ℕ, ◌<◌}
use native.Mathlib.Omega.{arith}
use Rattle.reasons.specs.Reasons.{Broken, tooManyNodes, tooManyTrees, too_many_children, absent_below, met_twice, never_met, wrong_link, graft_with_children}
use Rattle.reasons.specs.Reasons.{grafted_twice, root_not_first, tree_twice, tree_unrooted, out_of_order, broken_field, no_focus, Reason, accepted}
use Rattle.reasons.specs.Reasons.{unsound_state, broken_record, no_tree_data, not_root, listed_twice, notGrafted, notExisting, noNumberLeft, named_twice}
use Rattle.reasons.specs.Reasons.{graftOverChildren, graftOfRoot, claimed_twice, claimed_from_holder, without_place, child_nowhere, focus_into_nothing}
use Rattle.reasons.specs.Reasons.{root_absent, focus_absent, updated_and_gone, unsound_outcome, too_many, slice_too_short, number_of, first_reason}
use Rattle.reasons.proofs.First.{IfSome}
use Rattle.reasons_why.specs.declared.Why.{Why}
use Rattle.reasons_why.specs.Why.{why_broken, why_of, why_for}

-- ## The number

broken_number : (k : ℕ) (o : Option Broken) → (why_broken k o).number ≡ k
unfolding why_broken
broken_number k None = refl
broken_number k (Some tooManyNodes) = refl
broken_number k (Some tooManyTrees) = refl
broken_number k (Some (too_many_children x)) = refl
broken_number k (Some (absent_below p x)) = refl
broken_number k (Some (met_twice x)) = refl
broken_number k (Some (never_met x d)) = refl
broken_number k (Some (wrong_link x was met)) = refl
broken_number k (Some (graft_with_children x)) = refl
broken_number k (Some (grafted_twice g)) = refl
broken_number k (Some root_not_first) = refl
broken_number k (Some (tree_twice n t)) = refl
broken_number k (Some (tree_unrooted n t)) = refl
broken_number k (Some (out_of_order x)) = refl
broken_number k (Some (broken_field x)) = refl
broken_number k (Some no_focus) = refl

pub why_number : (r : Reason) → (why_of r).number ≡ number_of r
unfolding why_of number_of
why_number accepted = refl
why_number (unsound_state broken) = broken_number 1 broken
why_number (broken_record o) = refl
why_number no_tree_data = refl
why_number (not_root t) = refl
why_number (listed_twice x i j) = refl
why_number (notGrafted t) = refl
why_number (notExisting t) = refl
why_number (noNumberLeft t) = refl
why_number (named_twice c by) = refl
why_number (graftOverChildren x) = refl
why_number (graftOfRoot x) = refl
why_number (claimed_twice t x y) = refl
why_number (claimed_from_holder t x y) = refl
why_number (without_place x i) = refl
why_number (child_nowhere p c) = refl
why_number (focus_into_nothing t way) = refl
why_number (root_absent r) = refl
why_number (focus_absent way) = refl
why_number (updated_and_gone x d) = refl
why_number (unsound_outcome broken) = broken_number 19 broken
why_number (too_many n) = refl
why_number (slice_too_short n room) = refl

-- ## The first reason of some

-- a reason has a number
abbrev pub Proper : Option Reason → Type 0
Proper o = IfSome (λ r. 0 < number_of r) o

-- of a number that is not 0
pub proper : (o : Option Reason) (k : ℕ) → 0 < k → IfSome (λ r. number_of r ≡ k) o → Proper o
proper None k up h = tt
proper (Some r) k up h = omega (arith, up, h)

-- without a number there is no reason
pub why_none : (o : Option Reason) {w : Why} → Proper o → w ≡ why_for o → w.number ≡ 0 → o ≡ None
unfolding why_for
why_none None h e z = refl
why_none (Some r) h e z = absurd (omega (arith, h, why_number r, sym (ap (λ (v : Why). v.number) e) ∙ z))

module _ (o : Option Reason) (os : List (Option Reason)) {w : Why} where
  -- the first reason is found
  pub first_found : w ≡ why_for o → (w.number ≡ 0 → ⊥) → w ≡ why_for (first_reason (o ∷ os))
  unfolding why_for why_of
  first_found e some? = go o e
    where
      go : (p : Option Reason) → w ≡ why_for p → w ≡ why_for (first_reason (p ∷ os))
      go None f = absurd (some? (ap (λ (v : Why). v.number) f))
      go (Some r) f = f

  -- there is none, and the rest goes on
  pub first_passed : {v : Why} → Proper o → v ≡ why_for o → v.number ≡ 0 → w ≡ why_for (first_reason os) → w ≡ why_for (first_reason (o ∷ os))
  first_passed h e z rest = rw (why_none o h e z) rest
