-- What the reports of a batch are given: the notes of the phases before, and the state after. Assumes nothing.
use Rattle.std.specs.Prelude.{Bool, List, ◌≡◌, ℕ}
use Rattle.ids.specs.declared.FullNodeId.{FullNodeId}
use Rattle.record.specs.Batch.{Batch}
use Rattle.state.specs.State.{Forest}
use Rattle.state_array.specs.View.{view}
use Rattle.update.specs.Outcome.{pane_root}
use Rattle.update.specs.Reports.{Changes, changes_of}
use Rattle.calls.specs.declared.notes.Scope.{Scope}
use Rattle.calls.specs.Setting.{Scoped, asked, forest}
use Rattle.calls.specs.Says.{outcome_state, Told}

-- the four lists that the batch makes
abbrev pub changes_in : List ℕ → List ℕ → Scope → Changes
changes_in state bytes c = changes_of (forest state) (asked bytes c)

-- THE PREMISE OF A REPORT: the first k columns of the notes are written, and `next` shows the state after.
pub record Outcomes (k : ℕ) (state bytes : List ℕ) (c : Scope) (notes next : List ℕ) : Type 0 where
  pub told : Told k state bytes c notes
  pub next_is : view next ≡ outcome_state state bytes c

-- whether x is the root that tree data gives a tree other than ROOT, by the scope
abbrev pub PaneRootIs : Scope → FullNodeId → Bool → Type 0
PaneRootIs c x r = (s : Forest) (b : Batch) → Scoped s b c → r ≡ pane_root s b x
