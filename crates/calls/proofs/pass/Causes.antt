-- Laws of causes: their numbers, the first row that holds, and the nodes that name a child by its entries. Assumes nothing.
use mathlib.Core.List.{List, [], ◌∷◌, ◌++◌, map}
use mathlib.Core.Path.{◌≡◌, refl, sym, ap, ◌∙◌}
use Prim.Native.Nat.{ℕ, zero, suc, ◌+◌, ◌≤◌, ◌<◌}
use native.Mathlib.Nat.{zero-add, add-zero}
use native.Mathlib.Omega.{arith}
use lib.Dec.{ltb}
use lib.ListN.{length, get_or, length-map, get_or-map}
use borrow.Author.Tests.{lt-ltb, le-ltb}
use Rattle.std.specs.Prelude.{if◌then◌else◌, Option, None, Some, option_map}
use Rattle.base.specs.Tests.{first_given}
use Rattle.base.specs.Search.{First}
use Rattle.base.proofs.Cases.{by_test}
use Rattle.base.proofs.Search.{first_later, ltb_suc}
use Rattle.ids.specs.declared.NodeId.{NodeId}
use Rattle.record.specs.Batch.{Listed, Batch, named_ids}
use Rattle.record_reader.specs.Reader.{no_node, no_listed, listed_at}
use Rattle.state.specs.State.{Forest}
use Rattle.update.specs.Words.{here}
use Rattle.update.specs.Pass.{pass, events}
use Rattle.update.specs.Numbers.{placeless, nowhere}
use Rattle.reasons.specs.Reasons.{Reason, without_place, child_nowhere, number_of}
use Rattle.reasons_calls.specs.Pass.{pass_fault, placeless_from, nowhere_under, nowhere_fault}
use Rattle.reasons_calls.specs.Explain.{or_accepted}
use Rattle.reasons_calls.proofs.Numbers.{told_none, told_row, told_found, tells_number, pass_tells, placeless_some, placeless_number, nowhere_some, nowhere_number}
use Rattle.calls.proofs.notes.Positions.{first_cong, first_given_at}
use Rattle.calls.specs.declared.pass.Cause.{Cause}
use Rattle.calls.specs.declared.pass.Cause.TheVariants.{NamedTwice, GraftOverChildren, GraftOfRoot, ClaimedTwice, WithoutPlace, ChildNowhere}
use Rattle.calls.specs.Causes.{Entry, entries, no_entry, cause_reason, cause_number, Within, Explains}
use Rattle.calls.specs.Pass.{pass_number, row_reason}

-- ## Numbers

module _ (s : Forest) (b : Batch) where
  -- of a cause's reason
  cause_number_lem : (r : Cause) → number_of (cause_reason s b r) ≡ cause_number r
  unfolding cause_reason number_of cause_number
  cause_number_lem (NamedTwice j) = refl
  cause_number_lem (GraftOverChildren i) = refl
  cause_number_lem (GraftOfRoot i) = refl
  cause_number_lem (ClaimedTwice i m) = refl
  cause_number_lem (WithoutPlace i) = refl
  cause_number_lem (ChildNowhere j) = refl

  -- of the rows
  rows_number : number_of (or_accepted (row_reason s b)) ≡ pass_number s b
  unfolding pass_number pass_fault pass nowhere_fault
  rows_number =
      tells_number (row_reason s b) (pass_number s b)
      (told_found (pass_fault s b) (pass s b) (pass_tells s b [] [] (events s b [] b.nodes))
      (told_row (placeless_from s b 0 b.nodes) 13 (omega arith) (placeless_some s b 0 b.nodes) (placeless_number s b 0 b.nodes)
      (told_row (nowhere_fault s b) 14 (omega arith) (nowhere_some s b b.nodes) (nowhere_number s b) told_none))).tells

-- a cause that explains the rows has their number; without one it is 0
pub explains_number : {s : Forest} {b : Batch} {o : Option Cause} {r : Cause} → Explains s b (row_reason s b) o → o ≡ Some r → cause_number r ≡ pass_number s b
unfolding or_accepted
explains_number {s} {b} {r = r} e q =
    sym (cause_number_lem s b r) ∙ ap (λ o. number_of (or_accepted (option_map (cause_reason s b) o))) (sym q) ∙ ap (λ o. number_of (or_accepted o)) (sym e.is) ∙ rows_number s b

pub explains_zero : {s : Forest} {b : Batch} {o : Option Cause} → Explains s b (row_reason s b) o → o ≡ None → 0 ≡ pass_number s b
unfolding or_accepted number_of
explains_zero {s} {b} e q = ap (λ o. number_of (or_accepted (option_map (cause_reason s b) o))) (sym q) ∙ ap (λ o. number_of (or_accepted o)) (sym e.is) ∙ rows_number s b

-- ## Entries

abbrev pub entry_of : Listed → NodeId → Entry
entry_of l c = record { by = l.id; child = c }

-- the children of all
entries_named : (ls : List Listed) → map (λ e. e.child) (entries ls) ≡ named_ids ls
unfolding entries named_ids
entries_named [] = refl
entries_named (l ∷ ls) = own l.body.children (entries_named ls)
  where
    own : (cs : List NodeId) → map (λ (e : Entry). e.child) (entries ls) ≡ named_ids ls
        → map (λ (e : Entry). e.child) (map (entry_of l) cs ++ entries ls) ≡ cs ++ named_ids ls
    own [] h = h
    own (c ∷ cs) h = ap (λ ds. c ∷ ds) (own cs h)

pub entries_length : (ls : List Listed) → length (entries ls) ≡ length (named_ids ls)
entries_length ls = sym (length-map (entries ls) (λ (e : Entry). e.child)) ∙ ap length (entries_named ls)

pub entry_child : (ls : List Listed) (j : ℕ) → (get_or (entries ls) j no_entry).child ≡ get_or (named_ids ls) j no_node
entry_child ls j = sym (get_or-map (λ (e : Entry). e.child) (entries ls) j no_entry) ∙ ap (λ cs. get_or cs j no_node) (entries_named ls)

-- ## The first row that holds

-- listed nodes left without a place, from place i on
placeless_first : (s : Forest) (b : Batch) (i : ℕ) (ls : List Listed) (r : ℕ) → First (λ m. placeless s b (get_or ls m no_listed)) (length ls) r
    → placeless_from s b i ls ≡ (if ltb r (length ls) then Some (without_place (here s b (get_or ls r no_listed).id) (i + r)) else None)
unfolding placeless_from
placeless_first s b i [] r h = rw (le-ltb r 0 (omega arith))
placeless_first s b i (l ∷ ls) zero h = rw (h.hit (omega arith), lt-ltb 0 (suc (length ls)) (omega arith), add-zero)
placeless_first s b i (l ∷ ls) (suc r) h =
    let at : i + suc r ≡ suc i + r = omega arith in
    rw (h.passed zero (omega arith), ltb_suc r (length ls), at)
    (placeless_first s b (suc i) ls r (first_later (λ m. placeless s b (get_or (l ∷ ls) m no_listed)) (length ls) r h))

module _ (s : Forest) (b : Batch) where
  abbrev nowhere_in : Entry → Option Reason
  nowhere_in e = if nowhere s b e.child then Some (child_nowhere (here s b e.by) (here s b e.child)) else None

  -- children that are nowhere, by their entries
  nowhere_are : (ls : List Listed) → first_given (nowhere_under s b) ls ≡ first_given nowhere_in (entries ls)
  unfolding nowhere_under entries
  nowhere_are [] = refl
  nowhere_are (l ∷ ls) = own l.body.children (nowhere_are ls)
    where
      later : Option Reason
      later = first_given (nowhere_under s b) ls

      own : (cs : List NodeId) → later ≡ first_given nowhere_in (entries ls)
          → ◌≡◌ {A = Option Reason} (elim (first_given (λ c. if nowhere s b c then Some (child_nowhere (here s b l.id) (here s b c)) else None) cs) [ None ↦ later | Some y ↦ Some y ])
          (first_given nowhere_in (map (entry_of l) cs ++ entries ls))
      own [] h = h
      own (c ∷ cs) h = by_test (nowhere s b c) (λ t. rw (t, first_given)) (λ t. rw (t, first_given) (own cs h))

  nowhere_first_entry : (r : ℕ) → First (λ m. nowhere s b (get_or (named_ids b.nodes) m no_node)) (length (named_ids b.nodes)) r
      → nowhere_fault s b
      ≡ (if ltb r (length (named_ids b.nodes))
      then Some (child_nowhere (here s b (get_or (entries b.nodes) r no_entry).by) (here s b (get_or (named_ids b.nodes) r no_node))) else None)
  unfolding nowhere_fault
  nowhere_first_entry r f =
      let es = entries b.nodes in
      let g : First (λ m. nowhere s b (get_or es m no_entry).child) (length es) r =
      rw (entries_length b.nodes) (first_cong _ _ (length (named_ids b.nodes)) r (λ m l. ap (nowhere s b) (sym (entry_child b.nodes m))) f) in
      nowhere_are b.nodes
      ∙ first_given_at (λ (e : Entry). nowhere s b e.child) (λ e. child_nowhere (here s b e.by) (here s b e.child)) no_entry es r g
      ∙ rw (entries_length b.nodes, entry_child b.nodes r)

-- the rows in their order, as the code asks them
module _ {s : Forest} {b : Batch} {o : Option Cause} (e : Explains s b (pass_fault s b) o) where
  -- one of 9 to 12
  pub row_met : {met : Cause} → o ≡ Some met → Explains s b (row_reason s b) (Some met)
  row_met {met} q = record {
    within = rw q at e.within;
    is = let found : pass_fault s b ≡ Some (cause_reason s b met) = e.is ∙ ap (option_map (cause_reason s b)) q in rw (found, first_given);
  }

  module _ (none : o ≡ None) {k i : ℕ} (count : k ≡ length b.nodes) (f : First (λ m. placeless s b (listed_at b m)) k i) where
    none_met : pass_fault s b ≡ None
    none_met = e.is ∙ ap (option_map (cause_reason s b)) none

    first_placeless : placeless_from s b 0 b.nodes ≡ (if ltb i (length b.nodes) then Some (without_place (here s b (listed_at b i).id) i) else None)
    unfolding listed_at
    first_placeless = placeless_first s b 0 b.nodes i (rw count at f) ∙ rw zero-add

    -- 13
    pub row_placeless : i < k → Explains s b (row_reason s b) (Some (WithoutPlace i))
    unfolding Within cause_reason
    row_placeless h =
        let inside : i < length b.nodes = omega arith in
        record { within = inside; is = rw (none_met, first_given, first_placeless, lt-ltb i (length b.nodes) inside) }

    module _ (past : k ≤ i) {m j : ℕ} (named : m ≡ length (named_ids b.nodes)) (g : First (λ m. nowhere s b (get_or (named_ids b.nodes) m no_node)) m j) where
      none_placeless : placeless_from s b 0 b.nodes ≡ None
      none_placeless = first_placeless ∙ rw (le-ltb i (length b.nodes) (omega arith))

      -- 14
      pub row_nowhere : j < m → Explains s b (row_reason s b) (Some (ChildNowhere j))
      unfolding Within cause_reason
      row_nowhere h =
          let inside : j < length (named_ids b.nodes) = omega arith in
          record {
            within = inside;
            is = rw (none_met, first_given, none_placeless, first_given, nowhere_first_entry s b j (rw named at g), lt-ltb j (length (named_ids b.nodes)) inside);
          }

      -- none
      pub row_none : m ≤ j → Explains s b (row_reason s b) None
      row_none h = record {
        within = tt;
        is = rw (none_met, first_given, none_placeless, first_given, nowhere_first_entry s b j (rw named at g), le-ltb j (length (named_ids b.nodes)) (omega arith));
      }
