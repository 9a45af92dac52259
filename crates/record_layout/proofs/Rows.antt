-- A row of rules as the code goes through it, and the code's tests of the bytes. Assumes nothing.
use mathlib.Core.Bool.{Bool, true, false, not, ◌&&◌, true≢false, false≢true}
use mathlib.Core.List.{List, [], ◌∷◌}
use Rattle.std.specs.Prelude.{Option, None, Some, Result, Ok, Err}
use Rattle.std.specs.Option as option
use Rattle.std.specs.Option.{option_or}
use Rattle.std.specs.Result.{result_err, IsErrAnd}
use mathlib.Core.Path.{◌≡◌, refl, ap, ◌∙◌}
use Prim.Native.Nat.{ℕ, ◌+◌}
use native.Mathlib.Omega.{arith}
use lib.Dec.{eqb}
use Rattle.base.specs.Tests.{◌and◌, is_none}
use Rattle.base.specs.Bytes.{le, zeros}
use Rattle.base.proofs.Bytes.{zeros_le, le_zero}
use Rattle.ids.specs.declared.TreeId.{TreeId}
use Rattle.ids.specs.Ids.{ROOT, same_tree}
use Rattle.record.specs.Layout.{node_count, entry_count, label_bytes}
use Rattle.record.specs.Parse.{children_before, labels_before}
use Rattle.record_rules.specs.declared.Offence.{Offence}
use Rattle.record_rules.specs.Rules.{rule, first_broken, total_rules}

-- ## No offence

-- what the code's test of an option says
pub test_says : {A : Type 0} (o : Option A) (b : Bool) → option.is_some o ≡ not b → is_none o ≡ b
test_says None true e = refl
test_says None false e = absurd (false≢true e)
test_says (Some x) true e = absurd (true≢false e)
test_says (Some x) false e = refl

-- ## A row of rules

-- what a `?` hands on
pub handed_on : (r : Result Unit Offence) {x : Offence} → IsErrAnd r (λ e. e ≡ x) → result_err r ≡ Some x
handed_on (Ok u) q = absurd q
handed_on (Err e) q = ap Some q

-- what is found of rules, each asked where none before it is broken
abbrev found_of : Option Offence → List (Option Offence) → Option Offence
found_of o [] = o
found_of o (r ∷ rs) = found_of (option_or o r) rs

-- what is found stays
found_stays : (x : Offence) (rs : List (Option Offence)) → found_of (Some x) rs ≡ Some x
found_stays x [] = refl
found_stays x (r ∷ rs) = found_stays x rs

-- and it is the first that is broken
pub found_first : (o : Option Offence) (rs : List (Option Offence)) → found_of o rs ≡ first_broken (o ∷ rs)
found_first None [] = refl
found_first None (r ∷ rs) = found_first r rs
found_first (Some x) rs = found_stays x rs

pub found_is : {o : Option Offence} {rs os : List (Option Offence)} → (o ∷ rs) ≡ os → found_of o rs ≡ first_broken os
found_is {o} {rs} e = found_first o rs ∙ ap first_broken e

-- the totals', of n nodes
pub totals_rows : (s : List ℕ) {n children labels entries bytes : ℕ}
    → n ≡ node_count s → children ≡ children_before s n → labels ≡ labels_before s n → entries ≡ entry_count s → bytes ≡ label_bytes s
    → (rule 25 2 (eqb children entries) ∷ rule 26 4 (eqb labels bytes) ∷ []) ≡ total_rules s
unfolding total_rules ◌and◌
totals_rows s n-is c-is l-is e-is b-is = rw (e-is, b-is, c-is, l-is, n-is)

-- ## The tests of the others

-- a node record's six zero bytes are a number of two and a number of four
pub six_zeros : (s : List ℕ) (at : ℕ) → zeros 6 s (at + 42) ≡ (eqb (le 2 s (at + 42)) 0 && eqb (le 4 s (at + 44)) 0)
unfolding ◌and◌
six_zeros s at = let e : at + 42 + 2 ≡ at + 44 = omega arith in rw (zeros_le s (at + 42) 6, le_zero s (at + 42) 2 4, e)

-- its graft is two numbers
pub no_graft : (t : TreeId) → same_tree t ROOT ≡ (eqb t.high 0 && eqb t.low 0)
unfolding same_tree ◌and◌
no_graft t = refl

pub ruleset rows = (handed_on, zeros_le, six_zeros, no_graft)
