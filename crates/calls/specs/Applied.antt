-- What applying a batch to a state answers and writes. Assumes nothing.
use Rattle.std.specs.Prelude.{List, ◌≡◌, ℕ, Result}
use Rattle.calls.specs.declared.notes.Refusal.{Refusal}
use Rattle.calls.specs.declared.notes.Scope.{Scope}
use Rattle.calls.specs.Setting.{asked, forest}
use Rattle.calls.specs.Refusals.{verdict}
use Rattle.calls.specs.Says.{Written}
use Rattle.calls.specs.Pass.{pass_number}
use Rattle.calls.specs.Rows.{later_rows}

-- a batch applied: its refusal, by the number of the rows, and, where none of 9 to 14 holds, the outcome
pub record Applied (state bytes : List ℕ) (c : Scope) (notes next : List ℕ) (r : Result (Unit {0}) Refusal) : Type 0 where
  pub number : r ≡ verdict (later_rows (forest state) (asked bytes c))
  pub written : pass_number (forest state) (asked bytes c) ≡ 0 → Written state bytes c notes next
