-- The reason of a call is that of the first row that holds, in the order in which the code asks them. Assumes nothing.
use mathlib.Core.Bool.{true, not}
use mathlib.Core.List.{List, [], ◌∷◌, ◌++◌}
use Rattle.std.specs.Prelude.{Option, None, Some}
use mathlib.Core.Path.{◌≡◌, refl, sym, ap, ◌∙◌}
use Prim.Native.Nat.{ℕ, ◌<◌}
use native.Mathlib.Omega.{arith}
use lib.ListN.{get_or, length}
use Rattle.base.specs.Tests.{◌and◌, is_some, is_none, is_nil, same_option, has}
use Rattle.base.proofs.Cases.{by_test, by_option}
use Rattle.base.proofs.Lists.{first_given_append}
use Rattle.base.proofs.Tests.{not_false, not_not, and_false}
use Rattle.update.specs.Words.{known, with_tree_data}
use Rattle.ids.specs.Ids.{ROOT, same_tree}
use Rattle.record.specs.Batch.{Batch, listed_ids}
use Rattle.record.specs.Parse.{well_formed, parse, batch_of}
use Rattle.record.proofs.Parse.{parse_well}
use Rattle.record_rules.specs.Rules.{record_fault}
use Rattle.record_rules.proofs.Rules.{fault_none}
use Rattle.state.specs.State.{Forest, State}
use Rattle.state.specs.Sound.{sound}
use Rattle.update.specs.Calls.{seed, without_tree_data}
use Rattle.calls.specs.Rows.{first_number, start_rows}
use Rattle.calls.specs.Parts.{ungrafted, missing, full}
use Rattle.update.specs.Numbers.{rows_before_pass}
use Rattle.update.specs.Reports.{changes_of, change_words}
use Rattle.update.specs.Outcome.{outcome}
use Rattle.calls.specs.Rows.{later_rows}
use lib.Dec.{ltb}
use Rattle.reasons.specs.Reasons.{Reason, number_of, graftOverChildren, graftOfRoot, unsound_state, no_tree_data, not_root, notGrafted, notExisting, noNumberLeft, slice_too_short, first_reason}
use Rattle.reasons.specs.Shape.{broken_state}
use Rattle.reasons_calls.specs.Pass.{repeated_after, claimer_among, second_claim, placing, pass_reason, pass_fault, placeless_from, nowhere_fault}
use Rattle.reasons.proofs.First.{says_else, says_or, says_each}
use Rattle.record.specs.Batch.{graft?, Listed}
use Rattle.ids.specs.declared.NodeId.{NodeId}
use Rattle.ids.specs.Ids.{same_node}
use Rattle.update.specs.Words.{here, claim}
use Rattle.update.specs.Pass.{Event, names, places, events}
use Rattle.reasons_calls.specs.Explain.{reasons_before_pass, reasons_after_pass, batch_reason, slice_reason, or_accepted, why_update, why_start}
use Rattle.reasons_calls.proofs.Numbers.{Tells, told_none, told_row, told_if, before_told, later_told, repeated_some, repeated_number, record_number, record_some, pass_tells, placeless_number, nowhere_number}
use Rattle.reasons_why.specs.declared.Why.{Why}
use Rattle.reasons_why.specs.Why.{why_of, why_for, way_of, way_words}
use Rattle.reasons_why.proofs.Numbers.{Proper, proper, why_none}
use Rattle.calls.specs.Explained.{Explains, ExplainsFor, no_way, way_for, record_reason, first_reasons, start_reasons, pass_reasons, last_reasons, later_reasons}
use Rattle.calls.proofs.explain.Explained.{no_way_lem, Wayless, wayless_of, wayless_if, proper_tells, alone, explains_plain, explains_whole, explains_alone, told_number}

-- ## Reasons in a row

module _ (xs ys : List (Option Reason)) where
  append_found : (r : Reason) → first_reason xs ≡ Some r → first_reason (xs ++ ys) ≡ Some r
  append_found r e = first_given_append (λ o. o) xs ys ∙ rw e

  append_passed : first_reason xs ≡ None → first_reason (xs ++ ys) ≡ first_reason ys
  append_passed e = first_given_append (λ o. o) xs ys ∙ rw e

  -- a reason of the first part
  pub row_found : {r : Why} {way : List ℕ} → ExplainsFor (first_reason xs) r way → (r.number ≡ 0 → ⊥) → ExplainsFor (first_reason (xs ++ ys)) r way
  unfolding why_for why_of
  row_found {r} {way} h some? = by_option (first_reason xs) (λ q. absurd (some? (ap (λ (v : Why). v.number) h.why_is ∙ ap (λ o. (why_for o).number) q)))
      (λ z q. rw (append_found z q) (rw q at h))

  -- none of it, and the second part
  pub row_passed : {r : Why} {way : List ℕ} → first_reason xs ≡ None → ExplainsFor (first_reason ys) r way → ExplainsFor (first_reason (xs ++ ys)) r way
  row_passed e h = rw (append_passed e) h

-- no number, no reason
pub none_told : (o : Option Reason) (n : ℕ) → Tells o n → n ≡ 0 → o ≡ None
none_told None n h z = refl
none_told (Some r) n h z = absurd (omega (arith, h.1, z))

-- no reason, no way
pub none_way : (o : Option Reason) {r : Why} {way : List ℕ} → Proper o → ExplainsFor o r way → r.number ≡ 0 → way ≡ no_way
unfolding way_for
none_way o h e z = e.way_is ∙ ap (λ p. way_words (way_for p)) (why_none o h e.why_is z) ∙ no_way_lem

-- ## Rows 9 to 14

second_wayless : (s : Forest) (b : Batch) (placed : List Listed) (l : Listed) → Wayless (second_claim s b placed l)
unfolding second_claim way_of
second_wayless s b placed l =
    by_option (claim s b l) (λ q. rw (q, second_claim) tt) (λ t q. by_option (claimer_among s b placed t) (λ p. rw (q, second_claim, p) tt) (λ k p. rw (q, second_claim, p) refl))

placing_wayless : (s : Forest) (b : Batch) (placed : List Listed) (l : Listed) → Wayless (placing s b placed l)
unfolding placing way_of
placing_wayless s b placed l =
    says_else (λ r. way_of r ≡ []) (is_some (graft? l.body) and not (is_nil l.body.children)) (graftOverChildren (here s b l.id)) _ (λ _. refl)
    (λ _. says_else (λ r. way_of r ≡ []) (same_option same_tree (claim s b l) (Some ROOT)) (graftOfRoot (here s b l.id)) (second_claim s b placed l) (λ _. refl) (λ _. second_wayless s b placed l))

pass_wayless : (s : Forest) (b : Batch) (seen : List NodeId) (placed : List Listed) (es : List Event) → Wayless (pass_reason s b seen placed es)
unfolding pass_reason way_of
pass_wayless s b seen placed [] = tt
pass_wayless s b seen placed (names c ∷ es) = says_else (λ r. way_of r ≡ []) (has same_node seen c) _ _ (λ _. refl) (λ _. pass_wayless s b (c ∷ seen) placed es)
pass_wayless s b seen placed (places l ∷ es) =
    says_or (λ r. way_of r ≡ []) (placing s b placed l) _ (placing_wayless s b placed l) (λ _. pass_wayless s b seen (l ∷ placed) es)

module _ (s : Forest) (b : Batch) where
  passes_wayless : Wayless (first_reason (pass_reasons s b))
  unfolding pass_fault
  passes_wayless =
      says_each (λ r. way_of r ≡ []) (pass_reasons s b) (
        pass_wayless s b [] [] (events s b [] b.nodes),
        λ _. (
          wayless_of (placeless_from s b 0 b.nodes) 13 (λ e. omega arith) (λ e. omega arith) (placeless_number s b 0 b.nodes),
          λ _. (wayless_of (nowhere_fault s b) 14 (λ e. omega arith) (λ e. omega arith) (nowhere_number s b), λ _. tt),
        ),
      )

  passes_proper : Proper (first_reason (pass_reasons s b))
  unfolding pass_fault
  passes_proper =
      says_each (λ r. 0 < number_of r) (pass_reasons s b) (
        proper_tells (pass_fault s b) _ (pass_tells s b [] [] (events s b [] b.nodes)),
        λ _. (proper (placeless_from s b 0 b.nodes) 13 (omega arith) (placeless_number s b 0 b.nodes), λ _. (proper (nowhere_fault s b) 14 (omega arith) (nowhere_number s b), λ _. tt)),
      )

  -- a batch that they refuse
  pub judged_early : {w : Why} {way : List ℕ} → w ≡ why_for (first_reason (pass_reasons s b)) → (w.number ≡ 0 → ⊥) → way ≡ no_way
      → ExplainsFor (first_reason (later_reasons s b)) w way
  unfolding later_reasons reasons_after_pass last_reasons
  judged_early e some? z =
      row_found (pass_reasons s b) (last_reasons s b (outcome s b)) (explains_plain (first_reason (pass_reasons s b)) passes_wayless e z) some?

  -- a batch that they let pass
  pub judged_late : {v w : Why} {way : List ℕ} {o : Forest} → v ≡ why_for (first_reason (pass_reasons s b)) → v.number ≡ 0 → o ≡ outcome s b
      → ExplainsFor (first_reason (last_reasons s b o)) w way → ExplainsFor (first_reason (later_reasons s b)) w way
  unfolding later_reasons reasons_after_pass last_reasons
  judged_late e z is h =
      row_passed (pass_reasons s b) (last_reasons s b (outcome s b)) (why_none (first_reason (pass_reasons s b)) passes_proper e z) (rw is at h)

-- rows 9 to 20
pub later_tells : (s : Forest) (b : Batch) → Tells (first_reason (later_reasons s b)) (later_rows s b)
unfolding later_reasons
later_tells s b = (later_told s b).tells

module _ (bytes : List ℕ) (small : (i : ℕ) → get_or bytes i 0 < 256) where
  -- row 2
  broken_formed : is_some (record_fault bytes) ≡ not (well_formed bytes)
  broken_formed = sym (not_not (is_some (record_fault bytes))) ∙ ap not (fault_none bytes small)

  well : record_fault bytes ≡ None → parse bytes ≡ Some (batch_of bytes)
  unfolding batch_of
  well e = parse_well bytes (not_false (sym broken_formed ∙ ap is_some e))

  -- ## A batch

  module _ (s : State) (room : ℕ) where
    -- all rows
    abbrev rows : List (Option Reason)
    rows = (first_reasons s.forest bytes ++ later_reasons s.forest (batch_of bytes)) ++ slice_reason s.forest (batch_of bytes) room ∷ []

    pub update_rows : why_update s bytes room ≡ or_accepted (first_reason rows)
    unfolding why_update first_reasons later_reasons batch_reason
    update_rows =
        by_option (record_fault bytes)
        (λ q. rw (q, well q, why_update)
        (by_test (not (sound s.forest)) (λ t. rw t)
        (λ t. rw t (ap or_accepted (sym (first_given_append (λ o. o) (reasons_before_pass s.forest (batch_of bytes) ++ later_reasons s.forest (batch_of bytes)) _))))))
        (λ o q. rw (q, why_update) (by_test (not (sound s.forest)) (λ t. rw t) (λ t. rw t)))

  -- rows 1, 2 and 5 to 8
  pub first_tells : (s : Forest) → Tells (first_reason (first_reasons s bytes)) (first_number s bytes)
  unfolding first_reasons first_number reasons_before_pass rows_before_pass number_of
  first_tells s =
      (told_if (not (sound s)) (unsound_state (broken_state s)) 1 (omega arith) refl
      (told_row (record_reason (record_fault bytes)) 2 (omega arith) (record_some (record_fault bytes) ∙ broken_formed) (record_number (record_fault bytes))
      (before_told s (batch_of bytes) told_none))).tells

  -- they have no way
  record_wayless : Wayless (record_reason (record_fault bytes))
  record_wayless = wayless_of (record_reason (record_fault bytes)) 2 (λ e. omega arith) (λ e. omega arith) (record_number (record_fault bytes))

  repeated_wayless : (s : Forest) (b : Batch) → Wayless (repeated_after s b [] (listed_ids b.nodes))
  repeated_wayless s b = wayless_of (repeated_after s b [] (listed_ids b.nodes)) 5 (λ e. omega arith) (λ e. omega arith) (repeated_number s b [] (listed_ids b.nodes))

  first_wayless : (s : Forest) → Wayless (first_reason (first_reasons s bytes))
  unfolding first_reasons reasons_before_pass ungrafted missing full way_of
  first_wayless s =
      let b = batch_of bytes in
      says_each (λ r. way_of r ≡ []) (first_reasons s bytes) (
        wayless_if (not (sound s)) (unsound_state (broken_state s)) refl,
        λ _. (
          record_wayless,
          λ _. (
            repeated_wayless s b,
            λ _. (
              wayless_if (ungrafted s b) (notGrafted b.tree) refl,
              λ _. (wayless_if (missing s b) (notExisting b.tree) refl, λ _. (wayless_if (full s b) (noNumberLeft b.tree) refl, λ _. tt)),
            ),
          ),
        ),
      )

  module _ (s : State) (room : ℕ) where
    -- a batch that they refuse
    pub first_explains : {k : ℕ} {r : Why} {way : List ℕ} → k ≡ first_number s.forest bytes → (k ≡ 0 → ⊥) → r ≡ why_for (first_reason (first_reasons s.forest bytes))
        → way ≡ no_way → Explains (why_update s bytes room) r way
    first_explains {k} {r} e some? h z =
        let tells = first_tells s.forest in
        let more : r.number ≡ 0 → ⊥ = λ n. some? (e ∙ sym (told_number (first_reason (first_reasons s.forest bytes)) tells h) ∙ n) in
        let plain = explains_plain (first_reason (first_reasons s.forest bytes)) (first_wayless s.forest) h z in
        rw (update_rows s room) (explains_whole (first_reason (rows s room))
        (row_found (first_reasons s.forest bytes ++ later_reasons s.forest (batch_of bytes)) _
        (row_found (first_reasons s.forest bytes) (later_reasons s.forest (batch_of bytes)) plain more) more))

    slice_wayless : (f : Forest) (b : Batch) → Wayless (slice_reason f b room)
    unfolding slice_reason way_of
    slice_wayless f b = wayless_if (ltb room (length (change_words (changes_of f b)))) (slice_too_short (length (change_words (changes_of f b))) room) refl

    module _ (passed : first_number s.forest bytes ≡ 0) where
      clear : first_reason (first_reasons s.forest bytes) ≡ None
      clear = none_told (first_reason (first_reasons s.forest bytes)) _ (first_tells s.forest) passed

      -- a batch that rows 9 to 20 refuse
      pub later_explains : {b : Batch} {r : Why} {way : List ℕ} → b ≡ batch_of bytes → ExplainsFor (first_reason (later_reasons s.forest b)) r way → (r.number ≡ 0 → ⊥)
          → Explains (why_update s bytes room) r way
      later_explains is h some? =
          rw (update_rows s room) (explains_whole (first_reason (rows s room))
          (row_found (first_reasons s.forest bytes ++ later_reasons s.forest (batch_of bytes)) _
          (row_passed (first_reasons s.forest bytes) (later_reasons s.forest (batch_of bytes)) clear (rw is at h)) some?))

      -- any other
      pub last_explains : {b : Batch} {q r : Why} {way : List ℕ} → b ≡ batch_of bytes → ExplainsFor (first_reason (later_reasons s.forest b)) q way → q.number ≡ 0
          → r ≡ why_for (slice_reason s.forest b room) → Explains (why_update s bytes room) r way
      last_explains is h z e =
          let later = rw is at h in
          let told = proper_tells (first_reason (later_reasons s.forest (batch_of bytes))) _ (later_tells s.forest (batch_of bytes)) in
          let none? = append_passed (first_reasons s.forest bytes) _ clear ∙ why_none (first_reason (later_reasons s.forest (batch_of bytes))) told later.why_is z in
          let slice = explains_plain (slice_reason s.forest (batch_of bytes) room) (slice_wayless s.forest (batch_of bytes)) (rw is at e) (none_way (first_reason (later_reasons s.forest (batch_of bytes))) told later z) in
          rw (update_rows s room) (explains_whole (first_reason (rows s room))
          (row_passed (first_reasons s.forest bytes ++ later_reasons s.forest (batch_of bytes)) _ none? (explains_alone _ slice)))

  -- ## A start

  abbrev given : Batch
  given = batch_of bytes

  -- of rows 5 to 8 of ROOT, where there is room for its number, row 5 is left
  seed_row : (os : List (Option Reason)) → same_tree given.tree ROOT ≡ true
      → first_reason (reasons_before_pass (seed given) (without_tree_data given) ++ os) ≡ first_reason (repeated_after (seed given) (without_tree_data given) [] (listed_ids given.nodes) ∷ os)
  unfolding reasons_before_pass seed without_tree_data with_tree_data ◌and◌
  seed_row os e = rw (e, and_false (not (known (seed given) (without_tree_data given))))

  abbrev start_row : List (Option Reason)
  start_row = start_reasons bytes ++ later_reasons (seed given) (without_tree_data given)

  start_rows_are : why_start bytes ≡ or_accepted (first_reason start_row)
  unfolding why_start start_reasons later_reasons batch_reason
  start_rows_are =
      by_option (record_fault bytes)
      (λ q. rw (q, well q, why_start)
      (by_test (is_none given.root) (λ t. rw t)
      (λ t. rw t (by_test (same_tree given.tree ROOT)
      (λ u. rw u (ap or_accepted (alone (batch_reason (seed given) (without_tree_data given)) ∙ seed_row (later_reasons (seed given) (without_tree_data given)) u))) (λ u. rw u)))))
      (λ o q. rw (q, why_start))

  pub start_tells : Tells (first_reason (start_reasons bytes)) (start_rows bytes)
  unfolding start_reasons start_rows number_of without_tree_data
  start_tells =
      (told_row (record_reason (record_fault bytes)) 2 (omega arith) (record_some (record_fault bytes) ∙ broken_formed) (record_number (record_fault bytes))
      (told_if (is_none given.root) no_tree_data 3 (omega arith) refl
      (told_if (not (same_tree given.tree ROOT)) (not_root given.tree) 4 (omega arith) refl
      (told_row (repeated_after (seed given) (without_tree_data given) [] (listed_ids given.nodes)) 5 (omega arith) (repeated_some (seed given) (without_tree_data given))
      (repeated_number (seed given) (without_tree_data given) [] (listed_ids given.nodes)) told_none)))).tells

  start_wayless : Wayless (first_reason (start_reasons bytes))
  unfolding start_reasons way_of without_tree_data
  start_wayless =
      says_each (λ r. way_of r ≡ []) (start_reasons bytes) (
        record_wayless,
        λ _. (
          wayless_if (is_none given.root) no_tree_data refl,
          λ _. (wayless_if (not (same_tree given.tree ROOT)) (not_root given.tree) refl, λ _. (repeated_wayless (seed given) (without_tree_data given), λ _. tt)),
        ),
      )

  -- a start that rows 2 to 5 refuse
  pub first_start_explains : {k : ℕ} {r : Why} {way : List ℕ} → k ≡ start_rows bytes → (k ≡ 0 → ⊥) → r ≡ why_for (first_reason (start_reasons bytes)) → way ≡ no_way
      → Explains (why_start bytes) r way
  first_start_explains {k} {r} e some? h z =
      let more : r.number ≡ 0 → ⊥ = λ n. some? (e ∙ sym (told_number (first_reason (start_reasons bytes)) start_tells h) ∙ n) in
      let plain = explains_plain (first_reason (start_reasons bytes)) start_wayless h z in
      rw start_rows_are (explains_whole (first_reason start_row) (row_found (start_reasons bytes) _ plain more))

  -- any other
  pub later_start_explains : {s : Forest} {b : Batch} {r : Why} {way : List ℕ} → start_rows bytes ≡ 0 → s ≡ seed given → b ≡ without_tree_data given
      → ExplainsFor (first_reason (later_reasons s b)) r way → Explains (why_start bytes) r way
  later_start_explains passed from is h =
      let clear = none_told (first_reason (start_reasons bytes)) _ start_tells passed in
      rw start_rows_are (explains_whole (first_reason start_row) (row_passed (start_reasons bytes) _ clear (rw (from, is) at h)))
