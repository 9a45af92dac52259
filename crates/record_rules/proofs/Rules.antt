-- Laws of the record's rules: where the first broken rule is found, and that bytes break none exactly where they are well formed.
-- Assumes nothing.
use mathlib.Core.Bool.{Bool, true, false, not, true≢false}
use mathlib.Core.List.{List, [], ◌∷◌}
use Rattle.std.specs.Prelude.{Option, None, Some}
use mathlib.Core.Path.{◌≡◌, refl, ap, ◌∙◌}
use Prim.Native.Nat.{ℕ, suc, ◌+◌, ◌-◌, ◌<◌}
use native.Mathlib.Nat.{add-zero}
use native.Mathlib.Omega.{arith}
use borrow.Author.Tests.{lt-ltb}
use lib.Dec.{eqb, ltb, leb}
use lib.ListN.{length, get_or}
use Rattle.base.specs.Tests.{◌and◌, is_none, all, first_given}
use Rattle.base.specs.Bytes.{all_below, list_of}
use Rattle.base.proofs.Bytes.{le_one, list_of_add}
use Rattle.base.proofs.Cases.{by_option}
use Rattle.base.proofs.Indexed.{all_indexed, all_below_cong}
use Rattle.base.proofs.Lists.{none_of, all_of, first_given_append}
use Rattle.base.proofs.Tests.{and_assoc, and_right, both}
use Rattle.record.specs.Batch.{fields_ok}
use Rattle.record.specs.Layout.{node_count, entry_count, label_bytes, record_at, label_length, role_number}
use Rattle.record.specs.Parse.{data_of, label_of, header_ok, children_before, labels_before, record_ok, well_formed}
use Rattle.record.proofs.Parse.{label_short}
use Rattle.record_rules.specs.declared.Offence.{Offence}
use Rattle.record_rules.specs.Rules.{rule, first_broken, header_rules, record_rules, record_offence, total_rules, record_fault}

-- ## The first that gives something

module _ {A B : Type 0} (f : A → Option B) where
  -- nothing is given where no element gives something
  pub first_given_none : (xs : List A) → is_none (first_given f xs) ≡ all (λ x. is_none (f x)) xs
  unfolding ◌and◌
  first_given_none [] = refl
  first_given_none (x ∷ xs) = by_option (f x) (λ q. rw (q, first_given) (first_given_none xs)) (λ y q. rw (q, first_given))

  -- what is given passes where all that the elements give does
  pub first_given_passes : (p : Option B → Bool) → p None ≡ true → (xs : List A) → all (λ x. p (f x)) xs ≡ true → p (first_given f xs) ≡ true
  first_given_passes p e [] h = e
  first_given_passes p e (x ∷ xs) h =
      by_option (f x) (λ q. rw (q, first_given) (first_given_passes p e xs (both h).1)) (λ y q. rw (q, first_given) (rw q at (both h).0))

module _ {B : Type 0} (f : ℕ → Option B) where
  pub first_given_below : (n : ℕ) → is_none (first_given f (list_of n (λ i. i))) ≡ all_below n (λ i. is_none (f i))
  first_given_below n = first_given_none f (list_of n (λ i. i)) ∙ all_indexed (λ i. is_none (f i)) n (λ i. i)

  -- the first number that gives something
  pub first_given_here : (n i : ℕ) → i < n → all_below i (λ k. is_none (f k)) ≡ true → is_none (f i) ≡ false → first_given f (list_of n (λ k. k)) ≡ f i
  unfolding list_of
  first_given_here n i l h e =
      let m : n ≡ i + suc (n - i - 1) = omega arith in
      let before = none_of (first_given f (list_of i (λ k. k))) (first_given_below i ∙ h) in
      ap (λ k. first_given f (list_of k (λ j. j))) m
      ∙ rw (list_of_add i (suc (n - i - 1)) (λ k. k), first_given_append f (list_of i (λ k. k)), before, first_given, add-zero)
      (by_option (f i) (λ q. absurd (true≢false (rw q at e))) (λ y q. rw (q, first_given)))

-- ## Rules

-- a rule is no offence where it is kept
pub rule_kept : (k at : ℕ) (b : Bool) → is_none (rule k at b) ≡ b
unfolding rule
rule_kept k at true = refl
rule_kept k at false = refl

-- what is found is a rule by its number, which is not 0: in C it stands as a bare number, where 0 is no rule
unfoldable pub numbered : Option Offence → Bool
numbered None = true
numbered (Some o) = not (eqb o.rule 0)

rule_numbered : (k at : ℕ) (b : Bool) → eqb k 0 ≡ false → numbered (rule k at b) ≡ true
unfolding rule numbered
rule_numbered k at true e = refl
rule_numbered k at false e = rw e

first_numbered : (xs : List (Option Offence)) → all numbered xs ≡ true → numbered (first_broken xs) ≡ true
unfolding numbered
first_numbered xs h = first_given_passes (λ o. o) numbered refl xs h

module _ (s : List ℕ) where
  pub header_numbered : numbered (first_broken (header_rules s)) ≡ true
  unfolding header_rules ◌and◌
  header_numbered = first_numbered (header_rules s) (simp rule_numbered)

  pub record_numbered : (i : ℕ) → numbered (record_offence s i) ≡ true
  unfolding record_offence record_rules ◌and◌
  record_numbered i = first_numbered (record_rules s (record_at i) (data_of s (record_at i)) (children_before s i) (labels_before s i)) (simp rule_numbered)

  pub totals_numbered : numbered (first_broken (total_rules s)) ≡ true
  unfolding total_rules ◌and◌
  totals_numbered = first_numbered (total_rules s) (simp rule_numbered)

-- ## Where the first broken rule of all is found

-- one row of rules, and then another
abbrev or_else : Option Offence → Option Offence → Option Offence
or_else o p = elim o [ Some x ↦ Some x | None ↦ p ]

or_else_found : (o p : Option Offence) → is_none o ≡ false → or_else o p ≡ o
or_else_found None p e = absurd (true≢false e)
or_else_found (Some x) p e = refl

or_else_kept : (o p : Option Offence) → is_none o ≡ true → or_else o p ≡ p
or_else_kept o p e = rw (none_of o e)

or_else_none : (o p : Option Offence) → is_none (or_else o p) ≡ (is_none o and is_none p)
unfolding ◌and◌
or_else_none None p = refl
or_else_none (Some x) p = refl

or_else_numbered : (o p : Option Offence) → numbered o ≡ true → numbered p ≡ true → numbered (or_else o p) ≡ true
or_else_numbered None p e f = f
or_else_numbered (Some x) p e f = e

module _ (s : List ℕ) where
  abbrev records : Option Offence
  records = first_given (record_offence s) (list_of (node_count s) (λ i. i))

  -- in the header
  pub fault_in_header : is_none (first_broken (header_rules s)) ≡ false → record_fault s ≡ first_broken (header_rules s)
  unfolding record_fault
  fault_in_header e = or_else_found (first_broken (header_rules s)) (or_else records (first_broken (total_rules s))) e

  pub fault_numbered : numbered (record_fault s) ≡ true
  unfolding record_fault numbered
  fault_numbered =
      or_else_numbered (first_broken (header_rules s)) (or_else records (first_broken (total_rules s))) (header_numbered s)
      (or_else_numbered records (first_broken (total_rules s))
      (first_given_passes (record_offence s) numbered refl (list_of (node_count s) (λ i. i)) (all_of (λ i. numbered (record_offence s i)) (list_of (node_count s) (λ i. i)) (λ i _. record_numbered s i)))
      (totals_numbered s))

  module _ (header : is_none (first_broken (header_rules s)) ≡ true) where
    -- in node record i, the first that breaks one
    pub fault_in_record : (i : ℕ) → i < node_count s → all_below i (λ k. is_none (record_offence s k)) ≡ true → is_none (record_offence s i) ≡ false
        → record_fault s ≡ record_offence s i
    unfolding record_fault
    fault_in_record i l h e =
        let here = first_given_here (record_offence s) (node_count s) i l h e in
        or_else_kept (first_broken (header_rules s)) (or_else records (first_broken (total_rules s))) header
        ∙ or_else_found records (first_broken (total_rules s)) (ap is_none here ∙ e) ∙ here

    -- in the totals
    pub fault_in_totals : all_below (node_count s) (λ k. is_none (record_offence s k)) ≡ true → record_fault s ≡ first_broken (total_rules s)
    unfolding record_fault
    fault_in_totals h =
        or_else_kept (first_broken (header_rules s)) (or_else records (first_broken (total_rules s))) header
        ∙ or_else_kept records (first_broken (total_rules s)) (first_given_below (record_offence s) (node_count s) ∙ h)

-- ## Well-formed bytes

-- a test of the label's bytes adds nothing to one of its length
short_label : (l m : Bool) → (l ≡ true → m ≡ true) → (r : Bool) → (l and (m and r)) ≡ (l and r)
unfolding ◌and◌
short_label true m h r = rw (h refl)
short_label false m h r = refl

-- a role is a byte
module _ (s : List ℕ) (bytes : (i : ℕ) → get_or s i 0 < 256) where
  header_kept : is_none (first_broken (header_rules s)) ≡ (leb 64 (length s) and header_ok s)
  unfolding header_rules header_ok
  header_kept = first_given_none (λ o. o) (header_rules s) ∙ simp (rule_kept, and_assoc, and_right)

  totals_kept : is_none (first_broken (total_rules s)) ≡ (eqb (children_before s (node_count s)) (entry_count s) and eqb (labels_before s (node_count s)) (label_bytes s))
  unfolding total_rules
  totals_kept = first_given_none (λ o. o) (total_rules s) ∙ simp (rule_kept, and_right)

  role_fits : (at : ℕ) → ltb (role_number s at) 256 ≡ true
  role_fits at = lt-ltb (role_number s at) 256 (rw (le_one s (at + 40)) (bytes (at + 40)))

  short : (at : ℕ) (r : Bool) → (leb (label_length s at) 32 and (leb (length (label_of s at)) 32 and r)) ≡ (leb (label_length s at) 32 and r)
  short at = short_label (leb (label_length s at) 32) (leb (length (label_of s at)) 32) (label_short s at)

  pub record_kept : (i : ℕ) → is_none (record_offence s i) ≡ record_ok s i
  unfolding record_offence record_rules record_ok fields_ok
  record_kept i =
      first_given_none (λ o. o) (record_rules s (record_at i) (data_of s (record_at i)) (children_before s i) (labels_before s i))
      ∙ simp (rule_kept, role_fits (record_at i), short (record_at i), and_assoc, and_right)

  -- bytes break no rule where they are well formed
  pub fault_none : is_none (record_fault s) ≡ well_formed s
  unfolding record_fault well_formed
  fault_none =
      or_else_none (first_broken (header_rules s)) (or_else (records s) (first_broken (total_rules s)))
      ∙ rw (or_else_none (records s) (first_broken (total_rules s)), header_kept, totals_kept, first_given_below (record_offence s) (node_count s))
      (rw (all_below_cong (node_count s) (λ i. is_none (record_offence s i)) (record_ok s) (λ i _. record_kept i)) (simp and_assoc))
