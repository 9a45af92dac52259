-- A reason has the number that the call answers. Assumes nothing.
use mathlib.Core.Bool.{Bool, not}
use mathlib.Core.List.{List, [], ◌∷◌, ◌++◌}
use Rattle.std.specs.Prelude.{Option, None, Some}
use mathlib.Core.Path.{◌≡◌, refl, sym, ap, ◌∙◌, subst}
use Prim.Native.Nat.{ℕ, zero, suc, ◌<◌}
use native.Mathlib.Omega.{arith}
use lib.ListN.{length, get_or}
use Rattle.base.specs.Tests.{◌and◌, is_some, is_none, is_nil, any, all, same_option, has, distinct, given, first_given}
use Rattle.base.specs.Tables.{Row, row, found, first}
use Rattle.base.proofs.Cases.{by_test, by_option}
use Rattle.base.proofs.Tests.{not_not, and_assoc, and_false, is_some_if}
use Rattle.base.proofs.Lists.{first_given_some, any_append}
use Rattle.base.proofs.Tables.{first_passes, first_holds, found_passes, found_counts, found_alone, first_none}
use Rattle.ids.specs.Ids.{ROOT, same_tree, same_node}
use Rattle.ids.proofs.Ids.{same_tree_sym, same_node_sym}
use Rattle.ids.specs.declared.TreeId.{TreeId}
use Rattle.ids.specs.declared.NodeId.{NodeId}
use Rattle.record.specs.Batch.{graft?, Listed, Batch, listed_ids, named_ids}
use Rattle.record.specs.Parse.{parse}
use Rattle.record.proofs.Parse.{parses}
use Rattle.state.specs.State.{Forest, State, blank}
use Rattle.state.specs.Down.{root_of}
use Rattle.state.specs.Focus.{effective_focus}
use Rattle.state.specs.Sound.{grafts_differ, sound_shape, sound}
use Rattle.update.specs.Words.{here, claim}
use Rattle.update.specs.Pass.{Event, names, places, events, fault, pass}
use Rattle.update.specs.Numbers.{absent, placeless, nowhere, updated_and_removed, rows_before_pass, rows_after_pass, batch_number}
use Rattle.update.specs.Outcome.{outcome}
use Rattle.update.specs.Reports.{changes_of, change_words}
use Rattle.update.specs.Calls.{Answer, refused, accepted, judged, batch_rows, update_number, update_batch, update, seed, without_tree_data, start_number}
use Rattle.update.specs.Calls.{started, start_batch, start}
use Rattle.record_rules.specs.declared.Offence.{Offence}
use Rattle.record_rules.specs.Rules.{record_fault}
use Rattle.record_rules.proofs.Rules.{fault_none}
use Rattle.reasons.specs.Reasons.{Reason, number_of, broken_record, no_tree_data, not_root, notGrafted, notExisting, noNumberLeft, child_nowhere, too_many}
use Rattle.reasons.specs.Reasons.{unsound_state, slice_too_short, first_reason}
use Rattle.reasons.specs.Shape.{graft_twice_from, broken_state}
use Rattle.reasons_calls.specs.Pass.{repeated_after, claimer_among, second_claim, placing, pass_reason, pass_fault, placeless_from, nowhere_under, nowhere_fault}
use Rattle.reasons_calls.specs.Outcome.{focus_reason, removed_reason, claims, clash_reason, outcome_reason}
use Rattle.reasons_calls.specs.Explain.{reason_if, reasons_before_pass, reasons_after_pass, batch_reason, slice_reason, or_accepted, why_update, why_start}
use Rattle.reasons.proofs.First.{IfSome, says_if, says_else, says_first}
use Rattle.reasons.proofs.Grafts.{has_tree, grafts_some}

-- ## A reason where a row holds

-- a reason tells a number, not 0; none tells 0
abbrev pub Tells : Option Reason → ℕ → Type 0
Tells None n = n ≡ 0
Tells (Some r) n = (number_of r ≡ n) × (0 < n)

-- r has number k
abbrev pub Numbered : ℕ → Reason → Type 0
Numbered k r = number_of r ≡ k

-- the first of some reasons tells the first number of some rows
pub record Told (os : List (Option Reason)) (rs : List Row) : Type 0 where
  pub tells : Tells (first_reason os) (first rs)

pub told_none : Told [] []
told_none = record { tells = first_none }

-- one row more, told by the reason that is there where its test holds
pub told_row : (o : Option Reason) {os : List (Option Reason)} (k : ℕ) {t : Bool} {rs : List Row} → 0 < k → is_some o ≡ t → IfSome (Numbered k) o
    → Told os rs → Told (o ∷ os) (row k t ∷ rs)
told_row None k {t} {rs} up e h rest = record { tells = rw (first_passes k t rs (sym e)) rest.tells }
told_row (Some r) k {t} {rs} up e h rest = record { tells = rw (first_holds k t rs (sym e)) (h, up) }

-- by its test
pub told_if : (t : Bool) (r : Reason) {os : List (Option Reason)} (k : ℕ) {rs : List Row} → 0 < k → number_of r ≡ k
    → Told os rs → Told (reason_if t r ∷ os) (row k t ∷ rs)
told_if t r k up e rest = told_row (reason_if t r) k up (is_some_if t r) (says_if (Numbered k) t r (λ _. e)) rest

-- a number found elsewhere
pub told_found : (o : Option Reason) {os : List (Option Reason)} (n : ℕ) {rs : List Row} → Tells o n → Told os rs → Told (o ∷ os) (found n ∷ rs)
told_found None n {rs} e rest = record { tells = rw (found_passes n rs e) rest.tells }
told_found (Some r) n {rs} e rest = record { tells = rw (found_counts n rs (λ z. omega (arith, e.1))) e }

-- ## Where a reason is there

-- none of xs is among some and x, where none is among these and x is not among xs
apart : (earlier xs : List NodeId) (x : NodeId)
    → all (λ y. not (has same_node (earlier ++ x ∷ []) y)) xs ≡ (all (λ y. not (has same_node earlier y)) xs and not (has same_node xs x))
unfolding ◌and◌
apart earlier [] x = refl
apart earlier (y ∷ ys) x =
    rw (any_append (same_node y) earlier (x ∷ []), apart earlier ys x, same_node_sym y x)
    (by_test (has same_node earlier y) (λ e. rw e)
    (λ e. by_test (same_node x y) (λ f. rw (e, f) (sym (and_false (all (λ y. not (has same_node earlier y)) ys)))) (λ f. rw (e, f))))

module _ (s : Forest) (b : Batch) where
  -- row 5
  repeated : (earlier xs : List NodeId)
      → is_none (repeated_after s b earlier xs) ≡ (all (λ x. not (has same_node earlier x)) xs and distinct same_node xs)
  unfolding repeated_after ◌and◌
  repeated earlier [] = refl
  repeated earlier (x ∷ xs) =
      by_test (has same_node earlier x) (λ e. rw e)
      (λ e. rw e (repeated (earlier ++ x ∷ []) xs ∙ rw (apart earlier xs x)
      (and_assoc (all (λ y. not (has same_node earlier y)) xs) (not (has same_node xs x)) (distinct same_node xs))))

  pub repeated_some : is_some (repeated_after s b [] (listed_ids b.nodes)) ≡ not (distinct same_node (listed_ids b.nodes))
  unfolding ◌and◌
  repeated_some =
      sym (not_not (is_some (repeated_after s b [] (listed_ids b.nodes))))
      ∙ ap not (repeated [] (listed_ids b.nodes) ∙ all_true (listed_ids b.nodes) (distinct same_node (listed_ids b.nodes)))
    where
      all_true : (xs : List NodeId) (c : Bool) → (all (λ x. not (has same_node [] x)) xs and c) ≡ c
      all_true [] c = refl
      all_true (x ∷ xs) c = all_true xs c

  -- row 12 in the pass
  pub claimer_some : (placed : List Listed) (t : TreeId) → is_some (claimer_among s b placed t) ≡ has same_tree (given (claim s b) placed) t
  unfolding claimer_among
  claimer_some placed t = first_given_some (λ l. same_option same_tree (claim s b l) (Some t)) (λ l. l) placed ∙ has_tree (claim s b) placed t

  -- rows 10 to 12 of a node that is placed, and then the rest
  placing_tells : (placed : List Listed) (l : Listed) (o : Option Reason) (n : ℕ) → Tells o n
      → Tells (elim (placing s b placed l) [ Some r ↦ Some r | None ↦ o ])
      (first
      (row 10 (is_some (graft? l.body) and not (is_nil l.body.children))
      ∷ row 11 (has same_tree (given (claim s b) (l ∷ [])) ROOT)
      ∷ row 12 (any (has same_tree (given (claim s b) placed)) (given (claim s b) (l ∷ [])))
      ∷ found n
      ∷ []))
  unfolding placing second_claim first number_of
  placing_tells placed l o n rest =
      let after : Tells o (first (found n ∷ [])) = rw (found_alone n) rest in
      by_test (is_some (graft? l.body) and not (is_nil l.body.children)) (λ e. rw (e, placing) (refl, omega arith))
      (λ e. by_option (claim s b l) (λ q. rw (e, placing, q, second_claim, given) after)
      (λ t q. by_test (same_tree t ROOT) (λ f. rw (e, placing, q, same_tree_sym ROOT t, f, given) (refl, omega arith))
      (λ f. let some? = claimer_some placed t in
      by_option (claimer_among s b placed t)
      (λ c. rw (e, placing, q, same_tree_sym ROOT t, f, given, second_claim, c) (rw (← some?, c) after))
      (λ k c. rw (e, placing, q, same_tree_sym ROOT t, f, given, second_claim, c) (rw (← some?, c) (refl, omega arith))))))

  -- the trees claimed so far, with one more node placed
  given_more : (l : Listed) (placed : List Listed) → given (claim s b) (l ∷ []) ++ given (claim s b) placed ≡ given (claim s b) (l ∷ placed)
  given_more l placed = by_option (claim s b l) (λ q. rw (q, given)) (λ t q. rw (q, given))

  -- rows 9 to 12
  pub pass_tells : (seen : List NodeId) (placed : List Listed) (es : List Event)
      → Tells (pass_reason s b seen placed es) (fault s b seen (given (claim s b) placed) es)
  unfolding pass_reason fault first number_of
  pass_tells seen placed [] = refl
  pass_tells seen placed (names c ∷ es) =
      let rest = pass_tells (c ∷ seen) placed es in
      by_test (has same_node seen c) (λ e. rw e (refl, omega arith)) (λ e. rw e (rw (found_alone (fault s b (c ∷ seen) (given (claim s b) placed) es)) rest))
  pass_tells seen placed (places l ∷ es) =
      placing_tells placed l (pass_reason s b seen (l ∷ placed) es) (fault s b seen (given (claim s b) (l ∷ []) ++ given (claim s b) placed) es)
      (rw (given_more l placed) (pass_tells seen (l ∷ placed) es))

  pub pass_none : pass_fault s b ≡ None → pass s b ≡ 0
  unfolding pass_fault pass
  pass_none e = subst (λ (o : Option Reason). Tells o (pass s b)) e (pass_tells [] [] (events s b [] b.nodes))

  -- row 13
  pub placeless_some : (i : ℕ) (ls : List Listed) → is_some (placeless_from s b i ls) ≡ any (placeless s b) ls
  unfolding placeless_from
  placeless_some i [] = refl
  placeless_some i (l ∷ ls) = by_test (placeless s b l) (λ t. rw t) (λ t. rw t (placeless_some (suc i) ls))

  -- row 14
  pub nowhere_some : (ls : List Listed) → is_some (first_given (nowhere_under s b) ls) ≡ any (nowhere s b) (named_ids ls)
  unfolding nowhere_under named_ids
  nowhere_some [] = refl
  nowhere_some (l ∷ ls) =
      let under = first_given_some (nowhere s b) (λ c. child_nowhere (here s b l.id) (here s b c)) l.body.children in
      rw (any_append (nowhere s b) l.body.children (named_ids ls), ← under, ← nowhere_some ls)
      (by_option (nowhere_under s b l) (λ q. rw (q, first_given)) (λ r q. rw (q, first_given)))

-- ## Its number

module _ (s : Forest) (b : Batch) where
  pub repeated_number : (earlier xs : List NodeId) → IfSome (Numbered 5) (repeated_after s b earlier xs)
  unfolding repeated_after number_of
  repeated_number earlier [] = tt
  repeated_number earlier (x ∷ xs) = says_else (Numbered 5) (has same_node earlier x) _ _ (λ _. refl) (λ _. repeated_number (earlier ++ x ∷ []) xs)

  pub placeless_number : (i : ℕ) (ls : List Listed) → IfSome (Numbered 13) (placeless_from s b i ls)
  unfolding placeless_from number_of
  placeless_number i [] = tt
  placeless_number i (l ∷ ls) = says_else (Numbered 13) (placeless s b l) _ _ (λ _. refl) (λ _. placeless_number (suc i) ls)

  pub nowhere_number : IfSome (Numbered 14) (nowhere_fault s b)
  unfolding nowhere_fault nowhere_under number_of
  nowhere_number =
      says_first (Numbered 14) (nowhere_under s b) b.nodes
      (λ l i. says_first (Numbered 14) _ l.body.children (λ c j. says_if (Numbered 14) (nowhere s b c) _ (λ _. refl)))

  pub clash_number : (o : Forest) → IfSome (Numbered 12) (clash_reason s b o)
  unfolding clash_reason number_of
  clash_number o =
      by_option (graft_twice_from 0 o.nodes) (λ q. rw (q, clash_reason) tt)
      (λ g q. by_test (claims s b g.node.id) (λ t. rw (q, clash_reason, t) refl) (λ t. rw (q, clash_reason, t) refl))

  pub clash_some : (o : Forest) → is_some (clash_reason s b o) ≡ not (grafts_differ o.nodes)
  unfolding clash_reason
  clash_some o = rw (← grafts_some 0 o.nodes) (by_option (graft_twice_from 0 o.nodes) (λ q. rw (q, clash_reason)) (λ g q. rw (q, clash_reason)))

  pub removed_number : IfSome (Numbered 18) (removed_reason s b)
  unfolding removed_reason number_of
  removed_number = says_first (Numbered 18) _ b.nodes (λ l i. says_if (Numbered 18) (updated_and_removed s b l) _ (λ _. refl))

  removed_some : is_some (removed_reason s b) ≡ any (updated_and_removed s b) b.nodes
  unfolding removed_reason
  removed_some = first_given_some (updated_and_removed s b) _ b.nodes

-- 15 to 17
pub focus_told : (o : Forest) {os : List (Option Reason)} {rs : List Row} → Told os rs
    → Told (focus_reason o ∷ os)
    (row 15 (is_none (effective_focus o))
    ∷ row 16 (absent o.nodes (root_of o))
    ∷ row 17 (absent o.nodes (effective_focus o))
    ∷ rs)
unfolding focus_reason first number_of
focus_told o rest =
    record {
      tells =
          by_test (is_none (effective_focus o)) (λ e. rw e (refl, omega arith))
          (λ e. by_test (absent o.nodes (root_of o)) (λ f. rw (e, f) (refl, omega arith))
          (λ f. by_test (absent o.nodes (effective_focus o)) (λ g. rw (e, f, g) (refl, omega arith)) (λ g. rw (e, f, g) rest.tells)));
    }

-- 19
pub outcome_told : (o : Forest) {os : List (Option Reason)} {rs : List Row} → Told os rs → Told (outcome_reason o ∷ os) (row 19 (not (sound_shape o)) ∷ rs)
unfolding outcome_reason first number_of
outcome_told o rest = record { tells = by_test (sound_shape o) (λ e. rw e rest.tells) (λ e. rw e (refl, omega arith)) }

-- ## The tables

module _ (s : Forest) (b : Batch) where
  pub after_told : (o : Forest) → Told (reasons_after_pass s b o) (rows_after_pass s b o)
  unfolding reasons_after_pass rows_after_pass nowhere_fault number_of
  after_told o =
      told_row (placeless_from s b 0 b.nodes) 13 (omega arith) (placeless_some s b 0 b.nodes) (placeless_number s b 0 b.nodes)
      (told_row (nowhere_fault s b) 14 (omega arith) (nowhere_some s b b.nodes) (nowhere_number s b)
      (told_row (clash_reason s b o) 12 (omega arith) (clash_some s b o) (clash_number s b o)
      (focus_told o
      (told_row (removed_reason s b) 18 (omega arith) (removed_some s b) (removed_number s b)
      (outcome_told o (told_if _ (too_many (length o.nodes)) 20 (omega arith) refl told_none))))))

  pub before_told : {os : List (Option Reason)} {rs : List Row} → Told os rs → Told (reasons_before_pass s b ++ os) (rows_before_pass s b ++ rs)
  unfolding reasons_before_pass rows_before_pass number_of
  before_told rest =
      told_row (repeated_after s b [] (listed_ids b.nodes)) 5 (omega arith) (repeated_some s b) (repeated_number s b [] (listed_ids b.nodes))
      (told_if _ (notGrafted b.tree) 6 (omega arith) refl
      (told_if _ (notExisting b.tree) 7 (omega arith) refl
      (told_if _ (noNumberLeft b.tree) 8 (omega arith) refl rest)))

  pub later_told : Told (pass_fault s b ∷ reasons_after_pass s b (outcome s b)) (found (pass s b) ∷ rows_after_pass s b (outcome s b))
  unfolding pass_fault pass
  later_told = told_found (pass_fault s b) (pass s b) (pass_tells s b [] [] (events s b [] b.nodes)) (after_told (outcome s b))

  pub batch_tells : Tells (batch_reason s b) (batch_number s b)
  unfolding batch_reason batch_number
  batch_tells = (before_told later_told).tells

-- ## The calls

-- the reason of a record that breaks a rule
abbrev pub record_reason : Option Offence → Option Reason
record_reason o = elim o [ None ↦ None | Some x ↦ Some (broken_record x) ]

pub record_number : (o : Option Offence) → IfSome (Numbered 2) (record_reason o)
unfolding number_of
record_number None = tt
record_number (Some o) = refl

pub record_some : (o : Option Offence) → is_some (record_reason o) ≡ is_some o
record_some None = refl
record_some (Some o) = refl

-- 2: a rule is broken where the bytes do not parse
pub fault_parse : (bytes : List ℕ) → ((i : ℕ) → get_or bytes i 0 < 256) → is_some (record_fault bytes) ≡ is_none (parse bytes)
fault_parse bytes small = sym (not_not (is_some (record_fault bytes))) ∙ ap not (fault_none bytes small ∙ sym (parses bytes))

-- 2, and then the rest
pub record_told : (bytes : List ℕ) → ((i : ℕ) → get_or bytes i 0 < 256) → (parsed : Option Batch) → parse bytes ≡ parsed
    → {os : List (Option Reason)} {rs : List Row} → Told os rs → Told (record_reason (record_fault bytes) ∷ os) (row 2 (is_none parsed) ∷ rs)
record_told bytes small parsed e rest =
    told_row (record_reason (record_fault bytes)) 2 (omega arith) (record_some (record_fault bytes) ∙ fault_parse bytes small ∙ ap is_none e)
    (record_number (record_fault bytes)) rest

-- the number of a reason that tells one
pub tells_number : (o : Option Reason) (n : ℕ) → Tells o n → number_of (or_accepted o) ≡ n
unfolding or_accepted number_of
tells_number None n e = sym e
tells_number (Some r) n e = e.0

judged_number : (n : ℕ) (s : State) (slice : List ℕ) (a : Answer) → a.number ≡ 0 → (judged n s slice a).number ≡ n
unfolding judged refused
judged_number zero s slice a e = e
judged_number (suc n) s slice a e = refl

-- the reasons of a batch, and the rows
abbrev reasons_on : State → ℕ → Option Batch → List (Option Reason)
reasons_on s room parsed = elim parsed [ None ↦ [] | Some b ↦ batch_reason s.forest b ∷ slice_reason s.forest b room ∷ [] ]

abbrev rows_on : State → List ℕ → Option Batch → List Row
rows_on s slice parsed = elim parsed [ None ↦ [] | Some b ↦ batch_rows s b slice ]

on_told : (s : State) (slice : List ℕ) (parsed : Option Batch) → Told (reasons_on s (length slice) parsed) (rows_on s slice parsed)
unfolding batch_rows slice_reason number_of
on_told s slice None = told_none
on_told s slice (Some b) =
    told_found (batch_reason s.forest b) (batch_number s.forest b) (batch_tells s.forest b)
    (told_if _ (slice_too_short (length (change_words (changes_of s.forest b))) (length slice)) 21 (omega arith) refl told_none)

update_told : (s : State) (bytes slice : List ℕ) → ((i : ℕ) → get_or bytes i 0 < 256) → (parsed : Option Batch) → parse bytes ≡ parsed
    → number_of (why_update s bytes (length slice)) ≡ update_number s parsed slice
unfolding why_update update_number number_of
update_told s bytes slice small parsed e =
    let rest : Told (reasons_on s (length slice) (parse bytes)) (rows_on s slice parsed) = rw e (on_told s slice parsed) in
    tells_number _ _
    (told_if (not (sound s.forest)) (unsound_state (broken_state s.forest)) 1 (omega arith) refl
    (record_told bytes small parsed e rest)).tells

pub update_number_lem : (s : State) (bytes slice : List ℕ) → ((i : ℕ) → get_or bytes i 0 < 256)
    → number_of (why_update s bytes (length slice)) ≡ (update s bytes slice).number
unfolding update update_batch refused accepted
update_number_lem s bytes slice small =
    by_option (parse bytes) (λ q. rw (q, update) (update_told s bytes slice small None q))
    (λ b q. rw (q, update) (update_told s bytes slice small (Some b) q ∙ sym (judged_number (update_number s (Some b) slice) s slice _ refl)))

-- a start's
abbrev reasons_of_start : Option Batch → List (Option Reason)
reasons_of_start parsed =
    elim parsed [
      | None ↦ []
      | Some b ↦
          reason_if (is_none b.root) no_tree_data
          ∷ reason_if (not (same_tree b.tree ROOT)) (not_root b.tree)
          ∷ batch_reason (seed b) (without_tree_data b)
          ∷ []
    ]

abbrev rows_of_start : Option Batch → List Row
rows_of_start parsed =
    elim parsed [
      | None ↦ []
      | Some b ↦ row 3 (is_none b.root) ∷ row 4 (not (same_tree b.tree ROOT)) ∷ found (batch_number (seed b) (without_tree_data b)) ∷ []
    ]

of_start_told : (parsed : Option Batch) → Told (reasons_of_start parsed) (rows_of_start parsed)
unfolding number_of
of_start_told None = told_none
of_start_told (Some b) =
    told_if _ no_tree_data 3 (omega arith) refl
    (told_if _ (not_root b.tree) 4 (omega arith) refl
    (told_found (batch_reason (seed b) (without_tree_data b)) (batch_number (seed b) (without_tree_data b)) (batch_tells (seed b) (without_tree_data b)) told_none))

start_told : (bytes : List ℕ) → ((i : ℕ) → get_or bytes i 0 < 256) → (parsed : Option Batch) → parse bytes ≡ parsed
    → number_of (why_start bytes) ≡ first (row 2 (is_none parsed) ∷ rows_of_start parsed)
unfolding why_start
start_told bytes small parsed e =
    let rest : Told (reasons_of_start (parse bytes)) (rows_of_start parsed) = rw e (of_start_told parsed) in
    tells_number _ _ (record_told bytes small parsed e rest).tells

pub start_number_lem : (bytes : List ℕ) (host : Bool) → ((i : ℕ) → get_or bytes i 0 < 256) → number_of (why_start bytes) ≡ (start bytes host).number
unfolding start start_batch start_number refused started first
start_number_lem bytes host small =
    by_option (parse bytes) (λ q. rw (q, start) (start_told bytes small None q))
    (λ b q. rw (q, start) (start_told bytes small (Some b) q ∙ sym (judged_number (start_number b) blank [] _ refl)))
