-- How the reasons of the parts make the reason of a call, each with its way. Assumes nothing.
use mathlib.Core.Bool.{Bool, true, false}
use mathlib.Core.List.{List, [], ◌∷◌}
use Rattle.std.specs.Prelude.{Option, None, Some}
use mathlib.Core.Path.{◌≡◌, refl, sym, ap, ◌∙◌}
use Prim.Native.Nat.{ℕ}
use native.Mathlib.Omega.{arith}
use Rattle.ids.specs.Ids.{id_words}
use Rattle.reasons.specs.Reasons.{Reason, accepted, unsound_state, broken_record, no_tree_data, not_root, listed_twice, notGrafted, notExisting, noNumberLeft, named_twice, graftOverChildren, graftOfRoot, claimed_twice, claimed_from_holder, without_place, child_nowhere, focus_into_nothing, root_absent, focus_absent, updated_and_gone, unsound_outcome, too_many, slice_too_short, number_of, first_reason}
use Rattle.reasons_calls.specs.Explain.{reason_if, or_accepted}
use Rattle.reasons.proofs.First.{IfSome}
use Rattle.reasons_calls.proofs.Numbers.{Tells}
use Rattle.reasons_why.specs.declared.Why.{Why}
use Rattle.reasons_why.specs.Why.{why_of, why_for, way_of, way_words}
use Rattle.reasons_why.proofs.Numbers.{why_number, Proper, why_none}
use Rattle.calls.specs.Explained.{Explains, ExplainsFor, no_way, way_for}

-- ## Ways

-- only 15 and 17 have one
pub wayless : (r : Reason) → (number_of r ≡ 15 → ⊥) → (number_of r ≡ 17 → ⊥) → way_of r ≡ []
unfolding way_of number_of
wayless accepted f g = refl
wayless (unsound_state broken) f g = refl
wayless (broken_record o) f g = refl
wayless no_tree_data f g = refl
wayless (not_root t) f g = refl
wayless (listed_twice x i j) f g = refl
wayless (notGrafted t) f g = refl
wayless (notExisting t) f g = refl
wayless (noNumberLeft t) f g = refl
wayless (named_twice c by) f g = refl
wayless (graftOverChildren x) f g = refl
wayless (graftOfRoot x) f g = refl
wayless (claimed_twice t x y) f g = refl
wayless (claimed_from_holder t x y) f g = refl
wayless (without_place x i) f g = refl
wayless (child_nowhere p c) f g = refl
wayless (focus_into_nothing t way) f g = absurd (f refl)
wayless (root_absent r) f g = refl
wayless (focus_absent way) f g = absurd (g refl)
wayless (updated_and_gone x d) f g = refl
wayless (unsound_outcome broken) f g = refl
wayless (too_many n) f g = refl
wayless (slice_too_short n room) f g = refl

-- a reason without a way
abbrev pub Wayless : Option Reason → Type 0
Wayless o = IfSome (λ r. way_of r ≡ []) o

-- no way, as words
pub no_way_lem : way_words [] ≡ no_way
unfolding way_words id_words
no_way_lem = refl

pub explains_plain : (o : Option Reason) {r : Why} {way : List ℕ} → Wayless o → r ≡ why_for o → way ≡ no_way → ExplainsFor o r way
unfolding way_for
explains_plain None h e z = record { why_is = e; way_is = z ∙ sym no_way_lem }
explains_plain (Some q) h e z = record { why_is = e; way_is = z ∙ sym (ap way_words h ∙ no_way_lem) }

-- ## The first reason of some

module _ (o : Option Reason) (os : List (Option Reason)) {r : Why} {way : List ℕ} where
  -- it is found
  pub explains_found : ExplainsFor o r way → (r.number ≡ 0 → ⊥) → ExplainsFor (first_reason (o ∷ os)) r way
  unfolding why_for why_of way_for
  explains_found h some? = go o h
    where
      go : (p : Option Reason) → ExplainsFor p r way → ExplainsFor (first_reason (p ∷ os)) r way
      go None k = absurd (some? (ap (λ (v : Why). v.number) k.why_is))
      go (Some q) k = record { why_is = k.why_is; way_is = k.way_is }

  -- there is none, and the rest goes on
  pub explains_passed : {v : Why} → Proper o → v ≡ why_for o → v.number ≡ 0 → ExplainsFor (first_reason os) r way → ExplainsFor (first_reason (o ∷ os)) r way
  explains_passed h e z rest = rw (why_none o h e z) rest

-- the reason of a call
pub explains_whole : (o : Option Reason) {r : Why} {way : List ℕ} → ExplainsFor o r way → Explains (or_accepted o) r way
unfolding or_accepted why_for way_for way_of
explains_whole None h = record { why_is = h.why_is; way_is = h.way_is }
explains_whole (Some q) h = record { why_is = h.why_is; way_is = h.way_is }

-- ## Which rows have a way

-- a reason of a number but 15 and 17
pub wayless_of : (o : Option Reason) (k : ℕ) → (k ≡ 15 → ⊥) → (k ≡ 17 → ⊥) → IfSome (λ r. number_of r ≡ k) o → Wayless o
wayless_of None k f g h = tt
wayless_of (Some r) k f g h = wayless r (λ e. f (sym h ∙ e)) (λ e. g (sym h ∙ e))

-- a reason that tells a number is proper
pub proper_tells : (o : Option Reason) (k : ℕ) → Tells o k → Proper o
proper_tells None k h = tt
proper_tells (Some r) k h = omega (arith, h.0, h.1)

-- a reason where a test holds
pub wayless_if : (t : Bool) (r : Reason) → way_of r ≡ [] → Wayless (reason_if t r)
wayless_if true r h = h
wayless_if false r h = tt

-- the only reason
pub alone : (o : Option Reason) → first_reason (o ∷ []) ≡ o
alone None = refl
alone (Some r) = refl

pub explains_alone : (o : Option Reason) {r : Why} {way : List ℕ} → ExplainsFor o r way → ExplainsFor (first_reason (o ∷ [])) r way
explains_alone o h = rw (alone o) h

-- a reason that tells a number has it
pub told_number : (o : Option Reason) {n : ℕ} {r : Why} → Tells o n → r ≡ why_for o → r.number ≡ n
unfolding why_for why_of
told_number None h e = ap (λ (v : Why). v.number) e ∙ sym h
told_number (Some q) h e = ap (λ (v : Why). v.number) e ∙ why_number q ∙ h.0
