-- What applying a batch answers and writes: the outcome shows itself, and the number is that of rows 9 to 20. Assumes nothing.
use mathlib.Core.List.{List}
use mathlib.Core.Path.{◌≡◌, sym, ap, ◌∙◌}
use Prim.Native.Nat.{ℕ, ◌<◌}
use lib.ListN.{get_or}
use Rattle.state.specs.State.{State}
use Rattle.state_array.specs.Stored.{stored}
use Rattle.state_array.specs.View.{view}
use Rattle.state_array.proofs.Viewed.{view_stored}
use Rattle.calls.specs.declared.notes.Refusal.{Refusal}
use Rattle.calls.specs.declared.notes.Scope.{Scope}
use Rattle.calls.specs.Setting.{asked, forest}
use Rattle.std.specs.Prelude.{Result, Ok, Err}
use Rattle.calls.specs.Refusals.{verdict}
use Rattle.calls.proofs.notes.Verdicts.{verdict_some, verdict_zero}
use Rattle.calls.specs.Says.{Told, PLANNED}
use Rattle.calls.proofs.Outcome.Fits.{outcome_fits, asked_labels}
use Rattle.calls.specs.Rows.{last_number, clashes}
use Rattle.calls.specs.Pass.{pass_number}
use Rattle.calls.proofs.rows.Numbers.{later_early, later_last}
use Rattle.calls.specs.Says.{outcome_state}
use Rattle.calls.specs.Says.{Written}
use Rattle.calls.specs.Applied.{Applied}

module _ (state bytes : List ℕ) (c : Scope) (notes next : List ℕ) where
  -- an outcome that was written
  pub written_is : Told PLANNED state bytes c notes → ((i : ℕ) → get_or bytes i 0 < 256) → next ≡ stored (outcome_state state bytes c) → Written state bytes c notes next
  written_is told byte words = record {
    told = told;
    words = words;
    shows = ap view words ∙ view_stored (outcome_state state bytes c) (outcome_fits state bytes c told.given (asked_labels bytes c byte));
  }

  -- a batch that rows 9 to 14 refuse
  pub applied_early : (o : Result (Unit {0}) Refusal) {r : Refusal} → o ≡ verdict (pass_number (forest state) (asked bytes c)) → o ≡ Err r → Applied state bytes c notes next (Err r)
  applied_early o e q =
      let wrong = verdict_some (pass_number (forest state) (asked bytes c)) e q in
      record { number = sym q ∙ e ∙ ap verdict (sym (later_early (forest state) (asked bytes c) wrong)); written = λ z. absurd (wrong z) }

  -- one that they let pass
  pub applied_last : (early r : Result (Unit {0}) Refusal) {u : Unit {0}} → early ≡ verdict (pass_number (forest state) (asked bytes c)) → early ≡ Ok u → Written state bytes c notes next
      → r ≡ verdict (last_number (view next).forest (clashes state bytes c)) → Applied state bytes c notes next r
  applied_last early r e none w q =
      let zero = verdict_zero (pass_number (forest state) (asked bytes c)) e none in
      record {
        number = q ∙ ap (λ (a : State). verdict (last_number a.forest (clashes state bytes c))) w.shows ∙ ap verdict (sym (later_last (forest state) (asked bytes c) zero));
        written = λ _. w;
      }
