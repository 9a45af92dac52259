-- `shown::deepest_child` meets its contract: the deepest from the node is the deepest from here, or the node here. The measure is how
-- many levels are left. Assumes nothing.
use mathlib.Core.Path.{◌≡◌}
use Prim.Native.Nat.{◌-◌, ◌<◌}
use lib.ListN.{length}
use Rattle.state_array.specs.View.{id_in, slots_of, view}
use Rattle.questions.specs.Filters.{filter_of}
use Rattle.questions.specs.Links.{ancestors}
use Rattle.question_calls.specs.Slots.{Sound}
use Rattle.question_calls.specs.Filters.{Included}
use Rattle.question_calls.specs.Plain.{seen_at}
use Rattle.question_calls.proofs.shown.Shown.{DeepestFrom}
use Rattle.question_calls.proofs.shown.deepest_child.Given as goal

abbrev pub invariant-loop-filter : goal.invariant-loop-filter
invariant-loop-filter l = (l.n ≡ slots_of l.state) × (l.deepest < slots_of l.state) × Included l.filter l.state l.focused l.deepest
    × ((sound : Sound l.state) → l.i < slots_of l.state → DeepestFrom l.side l.state sound (filter_of l.filter (seen_at l.state l.focused)) (id_in l.state l.i) l.deepest)

abbrev pub decreases-loop-filter : goal.decreases-loop-filter
decreases-loop-filter l = length (view l.state).forest.nodes - length (ancestors (view l.state).forest (id_in l.state l.deepest))
