-- `record_layout::all_kept` meets its contract. The loop has passed i records that keep their rules, with the sums of their children and of their
-- label bytes. Assumes nothing.
use mathlib.Core.List.{List}
use mathlib.Core.Path.{◌≡◌, refl, sym, ap, ◌∙◌}
use Prim.Native.Nat.{ℕ, ◌+◌, ◌≤◌, ◌<◌}
use Rattle.base.specs.Tests.{is_none}
use Rattle.base.proofs.Bytes.{sum_none, sum_more}
use Rattle.base.proofs.Scan.{scan_start, scan_more}
use Rattle.record.specs.Layout.{node_count, entry_count, label_bytes, record_at, child_count, label_length}
use Rattle.record.specs.Parse.{data_of, children_before, labels_before}
use Rattle.std.specs.Prelude.{Option, None, Some}
use Rattle.std.specs.Option.{option_or}
use lib.Dec.{eqb}
use Rattle.record_rules.specs.declared.Offence.{Offence}
use Rattle.record_rules.specs.Rules.{rule, first_broken, header_rules, record_rules, record_offence, record_fault}
use Rattle.record_rules.proofs.Rules.{fault_in_header, fault_in_record, fault_in_totals}
use Rattle.record_layout.proofs.Rows.{handed_on, found_is, totals_rows}
use native.Mathlib.Omega.{arith}
use Rattle.record_layout.proofs.all_kept.Invariants.{Counted}
use Rattle.record_layout.proofs.all_kept.Goals as goal

counted_start : {s : List ℕ} {n : ℕ} → Counted s n 0 0 0
unfolding children_before labels_before
counted_start = record { passed = scan_start; children_are = sym (sum_none _); labels_are = sym (sum_none _); children_small = omega arith; labels_small = omega arith }

-- a header that breaks a rule
header_broken : (s : List ℕ) {x : Offence} → Some x ≡ first_broken (header_rules s) → Some x ≡ record_fault s
header_broken s found = found ∙ sym (fault_in_header s (ap is_none (sym found)))

record_found : {s : List ℕ} {n children labels i : ℕ} → Counted s n children labels i
    → {o : Option Offence} → o ≡ first_broken (record_rules s (record_at i) (data_of s (record_at i)) children labels) → o ≡ record_offence s i
unfolding record_offence
record_found p found = rw (← p.children_are, ← p.labels_are) found

-- a record that breaks a rule
counted_broken : {s : List ℕ} {n children labels i : ℕ} → Counted s n children labels i → i < n → None ≡ first_broken (header_rules s) → n ≡ node_count s
    → {x : Offence} → Some x ≡ first_broken (record_rules s (record_at i) (data_of s (record_at i)) children labels) → Some x ≡ record_fault s
counted_broken {s} {i} p more header count found =
    let here = record_found p found in
    here ∙ sym (fault_in_record s (ap is_none (sym header)) i (omega arith) p.passed.each (ap is_none (sym here)))

-- a record that keeps them: one more has passed
counted_more : {s : List ℕ} {n children labels i : ℕ} → Counted s n children labels i → i < n
    → None ≡ first_broken (record_rules s (record_at i) (data_of s (record_at i)) children labels)
    → {k m : ℕ} → k < 65536 → m < 65536 → k ≡ child_count s (record_at i) → m ≡ label_length s (record_at i)
    → Counted s n (children + k) (labels + m) (i + 1)
unfolding children_before labels_before
counted_more p more found k-small m-small k-is m-is = record {
  passed = scan_more p.passed more (ap is_none (sym (record_found p found)));
  children_are = rw (sum_more, ← k-is, ← p.children_are);
  labels_are = rw (sum_more, ← m-is, ← p.labels_are);
  children_small = omega (arith, p.children_small);
  labels_small = omega (arith, p.labels_small);
}

-- all have passed: what is left is that they use up both parts
counted_end : {s : List ℕ} {n children labels i : ℕ} → Counted s n children labels i → n ≤ i → None ≡ first_broken (header_rules s) → n ≡ node_count s
    → {entries bytes : ℕ} → entries ≡ entry_count s → bytes ≡ label_bytes s
    → option_or (rule 25 2 (eqb children entries)) (rule 26 4 (eqb labels bytes)) ≡ record_fault s
counted_end {s} {i} p l header count entries_are bytes-are =
    let at_end : i ≡ node_count s = omega (arith, p.passed.within) in
    found_is (totals_rows s at_end p.children_are p.labels_are entries_are bytes-are)
    ∙ sym (fault_in_totals s (ap is_none (sym header)) (rw at_end at p.passed.each))

pub returns-in_err-header_kept : goal.returns-in_err-header_kept
returns-in_err-header_kept c = handed_on _ c.from_residual.ensures.1 ∙ header_broken _ c.in_err-header_kept.ensures

pub loop-i-init : goal.loop-i-init
loop-i-init c = counted_start

pub returns-in_err-record_kept : goal.returns-in_err-record_kept
returns-in_err-record_kept c =
    handed_on _ c.from_residual-in_err-record_kept.ensures.1
    ∙ counted_broken c.loop-i.invariant c.loop-i-test.true c.in_ok-header_kept.ensures c.u16_at-nodes.ensures c.in_err-record_kept.ensures

pub loop-i-preserved : goal.loop-i-preserved
loop-i-preserved c =
    counted_more c.loop-i.invariant c.loop-i-test.true c.in_ok-record_kept.ensures (omega arith) (omega arith) c.u16_at.ensures c.u16_at-in-loop-i.ensures

pub returns-in_err-keeps : goal.returns-in_err-keeps
returns-in_err-keeps c =
    handed_on _ c.from_residual-in_err-keeps.ensures.1
    ∙ rw (← c.in_err-keeps.ensures) at
    (counted_end c.loop-i.invariant c.loop-i-test.false c.in_ok-header_kept.ensures c.u16_at-nodes.ensures c.u16_at-2.ensures refl)

pub returns : goal.returns
returns c =
    c.keeps-2.ensures
    ∙ rw (← c.in_ok-keeps.ensures) at
    (counted_end c.loop-i.invariant c.loop-i-test.false c.in_ok-header_kept.ensures c.u16_at-nodes.ensures c.u16_at-2.ensures c.u16_at-3.ensures)
