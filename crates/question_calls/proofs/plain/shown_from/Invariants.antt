-- `plain::shown_from` meets its contract: what is listed from here is what is listed from where it began. The measure is how many nodes
-- can still be met. Assumes nothing.
use mathlib.Core.List.{flat_map}
use mathlib.Core.Path.{◌≡◌}
use Rattle.state_array.specs.View.{slots_of, view}
use Rattle.questions.specs.Walks.{shown}
use Rattle.questions.proofs.Shown.{mass}
use Rattle.question_calls.specs.Places.{met_from}
use Rattle.question_calls.specs.Plain.{seen_at, own_filter}
use Rattle.question_calls.proofs.plain.shown_from.Given as goal

abbrev pub invariant-loop-side : goal.invariant-loop-side
invariant-loop-side l = (l.n ≡ slots_of l.state)
    × (flat_map (shown (own_filter (seen_at l.state l.focused)) l.side (view l.state).forest) (met_from l.side l.state l.here)
    ≡ flat_map (shown (own_filter (seen_at l.state l.focused)) l.side (view l.state).forest) (met_from l.side l.state l.initial.here))

abbrev pub decreases-loop-side : goal.decreases-loop-side
decreases-loop-side l = mass l.side (view l.state).forest (met_from l.side l.state l.here)
