-- Every reason says what is so. Assumes nothing.
use mathlib.Core.Bool.{true, false, not}
use mathlib.Core.List.{List, [], ◌∷◌, ◌++◌}
use Rattle.std.specs.Prelude.{Option, None, Some}
use Rattle.std.proofs.lemmas.Option.{none-some}
use mathlib.Core.Path.{◌≡◌, refl, sym, ap, ◌∙◌}
use Prim.Native.Nat.{ℕ, zero, suc, ◌+◌, ◌<◌}
use native.Mathlib.Omega.{arith}
use lib.Dec.{ltb, leb}
use lib.ListN.{length, get_or}
use borrow.Author.Tests.{ltb-true}
use Rattle.base.specs.Tests.{◌and◌, is_some, is_none, any, all, distinct, first_given}
use Rattle.base.specs.Bytes.{list_of}
use Rattle.base.proofs.Cases.{by_test, by_option, by_order}
use Rattle.base.proofs.Tests.{not_true, not_false}
use Rattle.base.proofs.Lists.{none_of}
use Rattle.ids.specs.Ids.{ROOT, same_tree, same_node}
use Rattle.record.specs.Batch.{Batch, listed_ids}
use Rattle.record.specs.Layout.{node_count}
use Rattle.record.specs.Parse.{parse}
use Rattle.record_rules.specs.declared.Offence.{Offence}
use Rattle.record_rules.specs.Rules.{first_broken, header_rules, record_offence, total_rules, record_fault}
use Rattle.state.specs.State.{Forest, State, holder, subtree_of}
use Rattle.state.specs.Sound.{ascending, grafts_differ, sound_shape, sound}
use Rattle.state.proofs.Sound.{shape_parts, sound_parts}
use Rattle.state.proofs.Grafts.{spares, root_spared}
use Rattle.update.specs.Words.{known, with_tree_data}
use Rattle.update.specs.Outcome.{outcome}
use Rattle.update.specs.Numbers.{placeless}
use Rattle.update.specs.Reports.{changes_of, change_words}
use Rattle.update.specs.Calls.{seed, without_tree_data}
use Rattle.update.proofs.Focus.{outcome_root}
use Rattle.reasons.specs.Reasons.{Reason, unsound_state, broken_record, no_tree_data, not_root, notGrafted, notExisting, noNumberLeft, too_many}
use Rattle.reasons.specs.Reasons.{slice_too_short, first_reason}
use Rattle.reasons.specs.Shape.{broken_state}
use Rattle.reasons_calls.specs.Pass.{pass_fault, placeless_from}
use Rattle.reasons_calls.specs.Outcome.{focus_reason, removed_reason, clash_reason, outcome_reason}
use Rattle.reasons_calls.specs.Explain.{reason_if, reasons_before_pass, reasons_after_pass, batch_reason, slice_reason, or_accepted, why_update, why_start}
use Rattle.reasons_calls.specs.Holds.{OfBatch, FirstOffence, this, later, rules_at, Kept, Offends, in_header, in_record, in_totals, Says, no_row}
use Rattle.reasons_calls.specs.Holds.{row_1, row_2, of_batch, row_21, Holds, StartSays, no_start_row, start_row_2, row_3, row_4, of_start}
use Rattle.reasons_calls.specs.Holds.{StartHolds}
use Rattle.reasons.proofs.First.{IfSome, Each, said, says_if, says_or, says_each, says_map, says_more}
use Rattle.reasons_calls.proofs.Numbers.{repeated_some, pass_none, placeless_some, clash_some, fault_parse, update_number_lem, start_number_lem}
use Rattle.reasons.proofs.Complete.{shape_found, state_found}
use Rattle.reasons_calls.proofs.Pass.{repeated_true, pass_true, placeless_true, nowhere_true}
use Rattle.reasons_calls.proofs.Dropped.{removed_true}
use Rattle.reasons_calls.proofs.Focus.{focus_true}
use Rattle.reasons_calls.proofs.Clash.{clash_true}

-- ## A record

-- the first of some rules that is broken
first_is : (os : List (Option Offence)) → IfSome (λ o. FirstOffence o os) (first_broken os)
first_is [] = tt
first_is (None ∷ os) = says_more (λ o. FirstOffence o os) (λ o. FirstOffence o (None ∷ os)) (λ o h. later h) (first_broken os) (first_is os)
first_is (Some o ∷ os) = this

first_said : (os : List (Option Offence)) (o : Offence) → first_broken os ≡ Some o → FirstOffence o os
first_said os o q = said (λ o. FirstOffence o os) (first_broken os) (first_is os) o q

-- the first of f 0, .., f (n - 1) that gives something
abbrev Scanned : (ℕ → Option Offence) → ℕ → Option Offence → Type 0
Scanned f n None = (j : ℕ) → j < n → f j ≡ None
Scanned f n (Some o) = (i : ℕ) × (i < n) × ((j : ℕ) → j < i → f j ≡ None) × (f i ≡ Some o)

-- k is the first number looked at, and m how many are left
scanned : (f : ℕ → Option Offence) (m k n : ℕ) (g : ℕ → ℕ) → ((i : ℕ) → g i ≡ k + i) → k + m ≡ n → ((j : ℕ) → j < k → f j ≡ None)
    → Scanned f n (first_given f (list_of m g))
unfolding list_of
scanned f zero k n g is e h = λ j less. h j (omega arith)
scanned f (suc m) k n g is e h =
    let now : g 0 ≡ k = omega (arith, is 0) in
    by_option (f (g 0))
    (λ q. rw (q, first_given)
    (scanned f m (suc k) n (λ i. g (suc i)) (λ i. omega (arith, is (suc i))) (omega arith)
    (λ j less. by_order j k (λ l. h j l) (λ l. let same : j ≡ g 0 = omega arith in rw same q))))
    (λ o q. rw (q, first_given) (k, omega arith, h, rw now at q))

record_says : (bytes : List ℕ) → IfSome (Offends bytes) (record_fault bytes)
unfolding record_fault record_offence
record_says bytes =
    says_or (Offends bytes) (first_broken (header_rules bytes)) _
    (says_more (λ o. FirstOffence o (header_rules bytes)) (Offends bytes) (λ o h. in_header h) (first_broken (header_rules bytes)) (first_is (header_rules bytes)))
    (λ header. records header (first_given (record_offence bytes) (list_of (node_count bytes) (λ i. i))) refl
    (scanned (record_offence bytes) (node_count bytes) 0 (node_count bytes) (λ i. i) (λ i. omega arith) (omega arith) (λ j less. absurd (omega arith))))
  where
    records : Kept (header_rules bytes) → (found : Option Offence) → first_given (record_offence bytes) (list_of (node_count bytes) (λ i. i)) ≡ found
        → Scanned (record_offence bytes) (node_count bytes) found
        → IfSome (Offends bytes) (elim found [ Some o ↦ Some o | None ↦ first_broken (total_rules bytes) ])
    records header None e h =
        says_more (λ o. FirstOffence o (total_rules bytes)) (Offends bytes) (λ o z. in_totals (header, h) z) (first_broken (total_rules bytes))
        (first_is (total_rules bytes))
    records header (Some o) e h = in_record h.0 h.1 (header, h.2) (first_said (rules_at bytes h.0) o h.3)

-- ## A batch

-- what is asked of the forest before: its nodes in order, no tree grafted twice, and ROOT not at all
pub record Before (s : Forest) : Type 0 where
  pub ordered : ascending s.nodes ≡ true
  pub differ : grafts_differ s.nodes ≡ true
  pub spared : all (λ n. spares ROOT n.body) s.nodes ≡ true

-- so it is of a sound one, and of the forest that a start begins with
pub before_sound : (s : Forest) → sound s ≡ true → Before s
before_sound s e = let h = shape_parts s (sound_parts s e).shape in record { ordered = h.ordered; differ = h.differ; spared = root_spared s h }

pub before_seed : (b : Batch) → Before (seed b)
unfolding seed ascending grafts_differ
before_seed b = record { ordered = refl; differ = refl; spared = refl }

module _ (s : Forest) (b : Batch) (before : Before s) where
  outcome_says : IfSome (OfBatch s b) (outcome_reason (outcome s b))
  unfolding outcome_reason OfBatch
  outcome_says = by_test (sound_shape (outcome s b)) (λ t. rw t tt) (λ t. let z = shape_found (outcome s b) t in rw (t, z.1) (t, z.2))

  -- where the rows before do not hold: no node listed twice, the pass without reason, every listed node with a place
  module _ (once : distinct same_node (listed_ids b.nodes) ≡ true) (passed : pass_fault s b ≡ None) where
    -- 15 to 20
    focus_on : any (placeless s b) b.nodes ≡ false → clash_reason s b (outcome s b) ≡ None
        → Each (OfBatch s b)
        (focus_reason (outcome s b)
        ∷ removed_reason s b
        ∷ outcome_reason (outcome s b)
        ∷ reason_if (ltb 256 (length (outcome s b).nodes)) (too_many (length (outcome s b).nodes))
        ∷ [])
    unfolding OfBatch
    focus_on placed twelve =
        let differ = not_false (sym (clash_some s b (outcome s b)) ∙ ap is_some twelve) in
        let free = outcome_root s b before.spared once (pass_none s b passed) placed in
        let many = says_if (OfBatch s b) (ltb 256 (length (outcome s b).nodes)) (too_many (length (outcome s b).nodes))
        (λ t. (refl, ltb-true 256 (length (outcome s b).nodes) t)) in
        (focus_true s b differ free, λ _. (removed_true s b, λ _. (outcome_says, λ _. (many, λ _. tt))))

    -- 13 to 20
    after_pass : Each (OfBatch s b) (reasons_after_pass s b (outcome s b))
    unfolding reasons_after_pass
    after_pass =
        let placed : placeless_from s b 0 b.nodes ≡ None → any (placeless s b) b.nodes ≡ false =
        λ e. sym (placeless_some s b 0 b.nodes) ∙ ap is_some e in (
          placeless_true s b,
          λ e. (
            nowhere_true s b,
            λ _.
                (clash_true s b before.differ once passed (placed e) before.ordered, λ twelve. focus_on (placed e) twelve),
          ),
        )

  -- 5 to 20
  pub batch_true : IfSome (OfBatch s b) (batch_reason s b)
  unfolding batch_reason reasons_before_pass OfBatch
  batch_true =
      let six = says_if (OfBatch s b) (with_tree_data s b and not (same_tree b.tree ROOT) and is_none (holder s.nodes b.tree))
      (notGrafted b.tree) (λ t. (refl, t)) in
      let seven = says_if (OfBatch s b) (not (with_tree_data s b) and not (same_tree b.tree ROOT) and is_none (subtree_of s b.tree))
      (notExisting b.tree) (λ t. (refl, t)) in
      let eight = says_if (OfBatch s b) (not (known s b) and leb 32 (length s.trees)) (noNumberLeft b.tree) (λ t. (refl, t)) in
      says_each (OfBatch s b) (reasons_before_pass s b ++ pass_fault s b ∷ reasons_after_pass s b (outcome s b)) (
        repeated_true s b,
        λ five.
            let once : distinct same_node (listed_ids b.nodes) ≡ true = not_false (sym (repeated_some s b) ∙ ap is_some five) in
            (six, λ _. (seven, λ _. (eight, λ _. (pass_true s b once, after_pass once)))),
      )

-- ## The calls

module _ (bytes : List ℕ) (small : (i : ℕ) → get_or bytes i 0 < 256) where
  -- bytes that break a rule do not parse
  fault_refused : (o : Offence) → record_fault bytes ≡ Some o → parse bytes ≡ None
  fault_refused o q = none_of (parse bytes) (sym (fault_parse bytes small) ∙ ap is_some q)

  fault_says : (P : Reason → Type 0) → ((o : Offence) → parse bytes ≡ None → Offends bytes o → P (broken_record o))
      → IfSome P (elim (record_fault bytes) [ None ↦ None | Some o ↦ Some (broken_record o) ])
  fault_says P h =
      says_map P broken_record (record_fault bytes) (λ o q. h o (fault_refused o q) (said (Offends bytes) (record_fault bytes) (record_says bytes) o q))

  why_says : (s : State) (room : ℕ) → Says s bytes room (why_update s bytes room)
  unfolding why_update or_accepted slice_reason
  why_says s room = answered (first_reason (reasons (parse bytes))) (says_each (Says s bytes room) (reasons (parse bytes)) (each (parse bytes) refl))
    where
      reasons : Option Batch → List (Option Reason)
      reasons parsed =
          reason_if (not (sound s.forest)) (unsound_state (broken_state s.forest))
          ∷ elim (record_fault bytes) [ None ↦ None | Some o ↦ Some (broken_record o) ]
          ∷ elim parsed [ None ↦ [] | Some b ↦ batch_reason s.forest b ∷ slice_reason s.forest b room ∷ [] ]

      on : (b : Batch) → parse bytes ≡ Some b → sound s.forest ≡ true
          → Each (Says s bytes room) (batch_reason s.forest b ∷ slice_reason s.forest b room ∷ [])
      on b q e =
          let most = length (change_words (changes_of s.forest b)) in (
            says_more (OfBatch s.forest b) (Says s bytes room) (λ r h. of_batch b q h) (batch_reason s.forest b)
                (batch_true s.forest b (before_sound s.forest e)),
            λ _.
                (says_if (Says s bytes room) (ltb room most) (slice_too_short most room) (λ t. row_21 b q refl (ltb-true room most t)), λ _. tt),
          )

      unsound_says : sound s.forest ≡ false → Says s bytes room (unsound_state (broken_state s.forest))
      unsound_says e = let z = state_found s.forest e in rw z.1 (row_1 e z.2)

      each : (parsed : Option Batch) → parse bytes ≡ parsed → Each (Says s bytes room) (reasons parsed)
      each None q = (
        says_if (Says s bytes room) (not (sound s.forest)) (unsound_state (broken_state s.forest)) (λ t. unsound_says (not_true t)),
        λ _.
            (fault_says (Says s bytes room) (λ o n h. row_2 n h), λ _. tt),
      )
      each (Some b) q = (
        says_if (Says s bytes room) (not (sound s.forest)) (unsound_state (broken_state s.forest)) (λ t. unsound_says (not_true t)),
        λ one. (
          fault_says (Says s bytes room) (λ o n h. row_2 n h),
          λ _.
              on b q (by_test (sound s.forest) (λ t. t) (λ t. absurd (none-some (unsound_state (broken_state s.forest)) (sym one ∙ rw t)))),
        ),
      )

      answered : (o : Option Reason) → IfSome (Says s bytes room) o → Says s bytes room (or_accepted o)
      answered None h = no_row
      answered (Some r) h = h

  why_start_says : StartSays bytes (why_start bytes)
  unfolding why_start or_accepted
  why_start_says = answered (first_reason (reasons (parse bytes))) (says_each (StartSays bytes) (reasons (parse bytes)) (each (parse bytes) refl))
    where
      reasons : Option Batch → List (Option Reason)
      reasons parsed =
          elim (record_fault bytes) [ None ↦ None | Some o ↦ Some (broken_record o) ]
          ∷ elim parsed [
            | None ↦ []
            | Some b ↦
                reason_if (is_none b.root) no_tree_data
                ∷ reason_if (not (same_tree b.tree ROOT)) (not_root b.tree)
                ∷ batch_reason (seed b) (without_tree_data b)
                ∷ []
          ]

      each : (parsed : Option Batch) → parse bytes ≡ parsed → Each (StartSays bytes) (reasons parsed)
      each None q = (fault_says (StartSays bytes) (λ o n h. start_row_2 n h), λ _. tt)
      each (Some b) q = (
        fault_says (StartSays bytes) (λ o n h. start_row_2 n h),
        λ _. (
          says_if (StartSays bytes) (is_none b.root) no_tree_data (λ t. row_3 b q (none_of b.root t)),
          λ _. (
            says_if (StartSays bytes) (not (same_tree b.tree ROOT)) (not_root b.tree) (λ t. row_4 b q (not_true t)),
            λ _. (
              says_more (OfBatch (seed b) (without_tree_data b)) (StartSays bytes) (λ r h. of_start b q h) (batch_reason (seed b) (without_tree_data b))
                  (batch_true (seed b) (without_tree_data b) (before_seed b)),
              λ _. tt,
            ),
          ),
        ),
      )

      answered : (o : Option Reason) → IfSome (StartSays bytes) o → StartSays bytes (or_accepted o)
      answered None h = no_start_row
      answered (Some r) h = h

  pub why_true : (s : State) (room : ℕ) → Holds s bytes room (why_update s bytes room)
  why_true s room = record { answers = λ slice e. sym (rw e at (update_number_lem s bytes slice small)); says = why_says s room }

  pub why_start_true : StartHolds bytes (why_start bytes)
  why_start_true = record { answers = λ host. sym (start_number_lem bytes host small); says = why_start_says }
