-- What is reported of the focus: its node before and after, and the extra ids. Assumes nothing.
use Rattle.std.specs.Prelude.{List, ◌++◌, ◌≡◌, ℕ, if◌then◌else◌, Option, None}
use Rattle.base.specs.Tests.{same_option}
use Rattle.ids.specs.Ids.{same_id}
use Rattle.ids.specs.declared.FullNodeId.{FullNodeId}
use Rattle.state.specs.State.{State}
use Rattle.state.specs.Focus.{state_focus}
use Rattle.state_array.specs.View.{view}
use Rattle.update.specs.Reports.{Changes, no_changes, unless_in, extra_before, extra_after}
use Rattle.calls.specs.declared.notes.Scope.{Scope}
use Rattle.calls.specs.Outcomes.{changes_in}
use Rattle.calls.specs.Says.{outcome_state}
use Rattle.calls.specs.declared.reports.Report.{Report}

-- from s to s' with these changes
pub record Reported (s s' : State) (c : Changes) (r : Report) : Type 0 where
  pub before_is : r.focus_before ≡ state_focus s
  pub after_is : r.focus_after ≡ state_focus s'
  pub extra_before_is : r.extra_before ≡ extra_before s s' c
  pub extra_after_is : r.extra_after ≡ extra_after s s' c

-- by a batch
abbrev pub UpdateReported : List ℕ → List ℕ → Scope → Report → Type 0
UpdateReported state bytes c r = Reported (view state) (outcome_state state bytes c) (changes_in state bytes c) r

-- a node, unless updated or removed
abbrev pub unless_before : Changes → Option FullNodeId → Option FullNodeId
unless_before c o = unless_in (c.updated ++ c.removed) o

-- a node, unless added or updated
abbrev pub unless_after : Changes → Option FullNodeId → Option FullNodeId
unless_after c o = unless_in (c.added ++ c.updated) o

-- between two states whose focus these answers are, with empty lists
abbrev pub HostReported : Option FullNodeId → Option FullNodeId → Report → Type 0
HostReported before after r =
    (s s' : State) → before ≡ state_focus s → after ≡ state_focus s' → Reported s s' no_changes r

-- two answers, and what is left of them as extra ids where they differ
pub record ReportOf (before after lost got : Option FullNodeId) (r : Report) : Type 0 where
  pub before_is : r.focus_before ≡ before
  pub after_is : r.focus_after ≡ after
  pub extra_before_is : r.extra_before ≡ (if same_option same_id before after then None else lost)
  pub extra_after_is : r.extra_after ≡ (if same_option same_id before after then None else got)

-- a focus afterwards, if any, and nothing else
pub record OnlyAfter (after : Option FullNodeId) (r : Report) : Type 0 where
  pub before_is : r.focus_before ≡ None
  pub after_is : r.focus_after ≡ after
  pub extra_before_is : r.extra_before ≡ None
  pub extra_after_is : r.extra_after ≡ None
