-- Rows 6 to 8 and 21: a reason where the row's test holds. Assumes nothing.
use mathlib.Core.Bool.{Bool, true, false}
use mathlib.Core.List.{List, [], ◌∷◌}
use Rattle.std.specs.Prelude.{Option, None, Result, Ok, Err}
use mathlib.Core.Path.{◌≡◌, refl, sym, ◌∙◌}
use native.Mathlib.Omega.{arith}
use Prim.Native.Nat.{ℕ, ◌≤◌, ◌<◌}
use lib.ListN.{length}
use borrow.Author.Tests.{lt-ltb, le-ltb}
use Rattle.ids.specs.Ids.{ROOT}
use Rattle.ids.specs.declared.TreeId.{TreeId}
use Rattle.record.specs.Batch.{Batch, listed_ids}
use Rattle.state.specs.State.{Forest}
use Rattle.update.specs.Reports.{change_words}
use Rattle.calls.specs.Outcomes.{changes_in, Outcomes}
use Rattle.calls.specs.Says.{REPORTED}
use Rattle.calls.specs.Slice.{ListsLent, ListsShort, ListsWritten, changes_noted}
use Rattle.calls.proofs.reports.Picked.{lists_noted}
use Rattle.calls.specs.declared.reports.Lists.{Lists}
use Rattle.calls.specs.declared.reports.TooShort.{TooShort}
use Rattle.calls.proofs.reports.Slice.{lists_length}
use Rattle.reasons.specs.Reasons.{Reason, accepted, notGrafted, notExisting, noNumberLeft, first_reason}
use Rattle.reasons_calls.specs.Pass.{repeated_after}
use Rattle.reasons_calls.specs.Explain.{reason_if, reasons_before_pass, slice_reason}
use Rattle.reasons_calls.proofs.Numbers.{repeated_number}
use Rattle.reasons_why.proofs.Numbers.{proper, first_found, first_passed}
use Rattle.calls.specs.Parts.{ungrafted, missing, full}
use Rattle.record.specs.Parse.{batch_of}
use Rattle.calls.specs.declared.notes.Scope.{Scope}
use Rattle.calls.specs.Setting.{Scoped, asked, forest}
use Rattle.calls.specs.WhyRows.{AgainIs}
use Rattle.reasons_why.specs.declared.Why.{Why}
use Rattle.reasons_why.specs.Why.{why, of_tree, why_of, why_for}

-- ## Rows 5 to 8, as the code asks them

-- 6 to 8
rest : Forest → Batch → List (Option Reason)
rest s b =
    reason_if (ungrafted s b) (notGrafted b.tree) ∷ reason_if (missing s b) (notExisting b.tree) ∷ reason_if (full s b) (noNumberLeft b.tree) ∷ []

module _ (s : Forest) (bytes : List ℕ) {c : Scope} (scoped : Scoped s (batch_of bytes) c) {a : Why} (is : AgainIs bytes c.tree a) where
  abbrev b : Batch
  b = batch_of bytes

  again : a ≡ why_for (repeated_after s b [] (listed_ids b.nodes))
  again = is.says s b refl scoped.tree

  -- 5
  pub before_again : (a.number ≡ 0 → ⊥) → a ≡ why_for (first_reason (reasons_before_pass s b))
  unfolding reasons_before_pass rest ungrafted missing full
  before_again up = first_found (repeated_after s b [] (listed_ids b.nodes)) (rest s b) again up

  module _ (once : a.number ≡ 0) where
    -- the node at fault is none of 5's
    past : {w : Why} → w ≡ why_for (first_reason (rest s b)) → w ≡ why_for (first_reason (reasons_before_pass s b))
    unfolding reasons_before_pass rest ungrafted missing full
    past e = first_passed (repeated_after s b [] (listed_ids b.nodes)) (rest s b) (proper (repeated_after s b [] (listed_ids b.nodes)) 5 (omega arith) (repeated_number s b [] (listed_ids b.nodes))) again once e

    module _ {t : TreeId} (tree : t ≡ b.tree) {u : Bool} (of-6 : u ≡ ungrafted s b) where
      -- 6
      pub before_ungrafted : {w : Why} → u ≡ true → w ≡ of_tree 6 t → w ≡ why_for (first_reason (reasons_before_pass s b))
      unfolding why_for why_of rest
      before_ungrafted e h = past (rw (sym of-6 ∙ e, ← tree) h)

      module _ {m : Bool} (of-7 : m ≡ missing s b) (not-6 : u ≡ false) where
        -- 7
        pub before_missing : {w : Why} → m ≡ true → w ≡ of_tree 7 t → w ≡ why_for (first_reason (reasons_before_pass s b))
        unfolding why_for why_of rest
        before_missing e h = past (rw (sym of-6 ∙ not-6, sym of-7 ∙ e, ← tree) h)

        module _ {f : Bool} (of-8 : f ≡ full s b) (not-7 : m ≡ false) where
          -- 8
          pub before_full : {w : Why} → f ≡ true → w ≡ of_tree 8 t → w ≡ why_for (first_reason (reasons_before_pass s b))
          unfolding why_for why_of rest
          before_full e h = past (rw (sym of-6 ∙ not-6, sym of-7 ∙ not-7, sym of-8 ∙ e, ← tree) h)

          -- none of them
          pub before_none : {w : Why} → f ≡ false → w ≡ why_of accepted → w ≡ why_for (first_reason (reasons_before_pass s b))
          unfolding why_for rest
          before_none e h = past (rw (sym of-6 ∙ not-6, sym of-7 ∙ not-7, sym of-8 ∙ e) h)

-- ## Row 21

-- the lists fit, or take more elements than are lent
module _ {state bytes : List ℕ} {c : Scope} {notes next : List ℕ} (given : Outcomes REPORTED state bytes c notes next) (room : ℕ)
    (before after : List ℕ) (o : Result Lists TooShort) (h : ListsWritten (changes_noted state notes next) before after o) where
  noted : ListsWritten (changes_in state bytes c) before after o
  noted = lists_noted given before after o h

  words_are : {e : TooShort} → o ≡ Err e → e.words ≡ length (change_words (changes_in state bytes c))
  unfolding ListsWritten
  words_are {e} q = let t : ListsShort (changes_in state bytes c) before after e = rw q at noted in t.words_are

  -- a slice of one element has room for them, so they take none
  pub slice_one : {l : Lists} {w : Why} → o ≡ Ok l → length before ≡ 1 → w ≡ why_of accepted → w ≡ why_for (slice_reason (forest state) (asked bytes c) room)
  unfolding why_for slice_reason ListsWritten
  slice_one {l} q one e =
      let t : ListsLent (changes_in state bytes c) before after l = rw q at noted in
      rw (le-ltb room (length (change_words (changes_in state bytes c))) (omega (arith, t.room, lists_length (changes_in state bytes c)))) e

  pub slice_fits : {e : TooShort} {w : Why} → o ≡ Err e → e.words ≤ room → w ≡ why_of accepted → w ≡ why_for (slice_reason (forest state) (asked bytes c) room)
  unfolding why_for slice_reason
  slice_fits q fit e = rw (le-ltb room (length (change_words (changes_in state bytes c))) (rw (← words_are q) fit)) e

  pub slice_short : {e : TooShort} → o ≡ Err e → room < e.words → why 21 0 e.words room ROOT None None None ≡ why_for (slice_reason (forest state) (asked bytes c) room)
  unfolding why_for why_of slice_reason
  slice_short q short = rw (lt-ltb room (length (change_words (changes_in state bytes c))) (rw (← words_are q) short), words_are q)
