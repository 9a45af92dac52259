-- A batch that passed rows 1, 2 and 5 to 8: what each way out answers. Assumes nothing.
use mathlib.Core.List.{List}
use mathlib.Core.Path.{◌≡◌, refl, sym, ap, ◌∙◌}
use Prim.Native.Nat.{ℕ, zero, suc}
use native.Mathlib.Omega.{arith}
use lib.Dec.{ltb}
use lib.ListN.{length}
use borrow.Author.Tests.{lt-ltb, le-ltb}
use Rattle.std.specs.Prelude.{Result, Ok, Err}
use Rattle.record.specs.Parse.{batch_of}
use Rattle.state_array.specs.Stored.{stored}
use Rattle.state_array.specs.View.{view}
use Rattle.update.specs.Outcome.{outcome}
use Rattle.update.specs.Reports.{Changes, changes_of, change_words, slice_after}
use Rattle.update.specs.Calls as definition
use Rattle.calls.specs.declared.notes.Refusal.{Refusal}
use Rattle.calls.specs.declared.notes.Scope.{Scope}
use Rattle.calls.specs.Setting.{Scoped, asked, forest, refusal}
use Rattle.calls.specs.Says.{outcome_state}
use Rattle.calls.specs.Says.{Written}
use Rattle.calls.specs.declared.reports.Lists.{Lists}
use Rattle.calls.specs.declared.reports.TooShort.{TooShort}
use Rattle.calls.specs.declared.reports.Report as reports
use Rattle.calls.specs.Outcomes.{changes_in}
use Rattle.calls.specs.Slice.{ListsLent, ListsShort, ListsWritten}
use Rattle.calls.specs.Reported.{UpdateReported}
use Rattle.calls.specs.Rows.{first_number, later_rows}
use Rattle.calls.proofs.rows.Given.{asked_update}
use Rattle.calls.specs.Pass.{pass_number}
use Rattle.calls.proofs.rows.Numbers.{later_early}
use Rattle.calls.proofs.rows.Calls.{update_state, too_short, update_first, update_later, update_full, update_done}
use Rattle.replies.specs.declared.Reply.{Reply}
use Rattle.replies.specs.Replies.{Updates}
use Rattle.replies.specs.Plain.{lengths_are, refused_reply}
use Rattle.calls.specs.Plain.{accepted_reply}
use Rattle.calls.proofs.answers.Answers.{refused_answers, accepted_answers}

-- a batch that rows 9 to 20 let pass, rows 9 to 14 let pass
pub later_pass : (k : ℕ) (state bytes : List ℕ) (c : Scope) → pass_number (forest state) (asked bytes c) ≡ k → later_rows (forest state) (asked bytes c) ≡ 0 → pass_number (forest state) (asked bytes c) ≡ 0
later_pass zero state bytes c e z = e
later_pass (suc k) state bytes c e z =
    absurd (omega (arith, e, later_early (forest state) (asked bytes c) (λ q. omega (arith, sym e ∙ q)), z))

-- a number of rows 1, 2 and 5 to 8
pub first_refused : (s bytes lent : List ℕ) (k : Refusal) → k ≡ refusal (first_number (view s).forest bytes) → (k.number ≡ 0 → ⊥) → (r : Reply) → r ≡ refused_reply k.number
    → Updates s bytes lent s r lent
first_refused s bytes lent k e some r q =
    let n : k.number ≡ first_number (view s).forest bytes = ap (λ (j : Refusal). j.number) e in
    refused_answers k.number some (view s) s _ lent refl _
    (update_first (view s) bytes lent (λ z. some (n ∙ z)) ∙ ap (λ j. definition.refused j (view s) lent) (sym n)) r q

module _ (s bytes lent : List ℕ) (c : Scope) (none : first_number (view s).forest bytes ≡ 0) (scoped : Scoped (view s).forest (batch_of bytes) c)
    (k : Refusal) (e : k ≡ refusal (later_rows (forest s) (asked bytes c))) where
  is : asked bytes c ≡ batch_of bytes
  is = asked_update (view s).forest bytes c scoped

  number : k.number ≡ later_rows (view s).forest (batch_of bytes)
  number = ap (λ (j : Refusal). j.number) e ∙ ap (later_rows (view s).forest) is

  -- a number of rows 9 to 20
  pub later_refused : (k.number ≡ 0 → ⊥) → (r : Reply) → r ≡ refused_reply k.number → Updates s bytes lent s r lent
  later_refused some r q =
      refused_answers k.number some (view s) s _ lent refl _
      (update_later (view s) bytes lent none (λ z. some (number ∙ z)) ∙ ap (λ j. definition.refused j (view s) lent) (sym number)) r q

  module _ (zero : k.number ≡ 0) (slice : List ℕ) (o : Result Lists TooShort) (w : ListsWritten (changes_in s bytes c) lent slice o) where
    clear : later_rows (view s).forest (batch_of bytes) ≡ 0
    clear = sym number ∙ zero

    changes : changes_in s bytes c ≡ changes_of (view s).forest (batch_of bytes)
    changes = ap (changes_of (view s).forest) is

    short : ltb (length lent) (length (change_words (changes_in s bytes c))) ≡ too_short (view s) bytes lent
    short = ap (λ (d : Changes). ltb (length lent) (length (change_words d))) changes

    -- row 21
    pub full_refused : {e : TooShort} → o ≡ Err e → (r : Reply) → r ≡ refused_reply 21 → Updates s bytes lent s r slice
    unfolding ListsWritten
    full_refused {e} f r q =
        let t : ListsShort (changes_in s bytes c) lent slice e = rw f at w in
        rw t.slice_is (refused_answers 21 (λ z. omega arith) (view s) s _ lent refl _ (update_full (view s) bytes lent none clear (sym short ∙ lt-ltb (length lent) (length (change_words (changes_in s bytes c))) t.short)) r q)

    -- no number
    pub update_accepted : {l : Lists} → o ≡ Ok l → (notes next : List ℕ) → Written s bytes c notes next → (p : reports.Report) → UpdateReported s bytes c p
        → (r : Reply) → r ≡ accepted_reply (lengths_are l.added l.updated l.removed l.relinked) p → Updates s bytes lent next r slice
    unfolding definition.accepted ListsWritten
    update_accepted {l} f notes next o p said r q =
        let t : ListsLent (changes_in s bytes c) lent slice l = rw f at w in
        let d = update_done (view s) bytes lent none clear (sym short ∙ le-ltb (length lent) (length (change_words (changes_in s bytes c))) t.room) in
        let after : outcome_state s bytes c ≡ update_state (view s) bytes lent = λ z. record { forest = outcome (view s).forest (is z); host_focused = (view s).host_focused } in
        accepted_answers (view s) (update_state (view s) bytes lent) (changes_of (view s).forest (batch_of bytes)) lent s _ next
        (o.words ∙ ap stored (after ∙ sym (ap (λ (a : definition.Answer). a.state) d)))
        (o.shows ∙ after) _ d p (rw is at said) _
        (rw (t.added_is, t.updated_is, t.removed_is, t.relinked_is, is)) r q slice
        (t.slice_is ∙ ap (slice_after lent) changes)
