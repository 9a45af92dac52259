-- `shown::shown_from` meets its contract: what is listed from here is what is listed from where it began. The measure is how many
-- nodes can still be met. Assumes nothing.
use mathlib.Core.List.{flat_map}
use mathlib.Core.Path.{◌≡◌}
use Rattle.state_array.specs.View.{slots_of, view}
use Rattle.questions.specs.Filters.{filter_of}
use Rattle.questions.specs.Walks.{shown}
use Rattle.questions.proofs.Shown.{mass}
use Rattle.question_calls.specs.Places.{met_from}
use Rattle.question_calls.specs.Plain.{seen_at}
use Rattle.question_calls.proofs.shown.shown_from.Given as goal

abbrev pub invariant-loop-filter : goal.invariant-loop-filter
invariant-loop-filter l = (l.n ≡ slots_of l.state)
    × (flat_map (shown (filter_of l.filter (seen_at l.state l.focused)) l.side (view l.state).forest) (met_from l.side l.state l.here)
    ≡ flat_map (shown (filter_of l.filter (seen_at l.state l.focused)) l.side (view l.state).forest) (met_from l.side l.state l.initial.here))

abbrev pub decreases-loop-filter : goal.decreases-loop-filter
decreases-loop-filter l = mass l.side (view l.state).forest (met_from l.side l.state l.here)
