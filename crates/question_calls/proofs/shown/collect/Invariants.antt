-- `shown::collect` meets its contract: what is listed from here on is what is left of the list. The measure is how long it is. Assumes
-- nothing.
use mathlib.Core.List.{List}
use mathlib.Core.Path.{◌≡◌}
use Prim.Native.Nat.{ℕ}
use lib.ListN.{length, drop}
use Rattle.state_array.specs.View.{slots_of}
use Rattle.questions.specs.Filters.{filter_of}
use Rattle.ids.specs.declared.FullNodeId.{FullNodeId}
use Rattle.questions.specs.declared.Filter.{Filter}
use Rattle.questions.specs.declared.Side.{Side}
use Rattle.question_calls.specs.declared.steps.Place.{Place}
use Rattle.question_calls.specs.Plain.{seen_at, listed_from}
use Rattle.question_calls.proofs.lists.Lists.{CollectedTo}
use Rattle.question_calls.proofs.shown.collect.Given as goal

-- the list of a place
abbrev pub list : List ℕ → ℕ → Filter → Side → Place → List FullNodeId
list state focused filter side r = listed_from (filter_of filter (seen_at state focused)) side state r

abbrev pub invariant-loop-filter : goal.invariant-loop-filter
invariant-loop-filter l = (l.n ≡ slots_of l.state)
    × CollectedTo (list l.state l.focused l.filter l.side l.initial.here) l.initial.ids l.k l.ids
    × (drop l.k (list l.state l.focused l.filter l.side l.initial.here) ≡ list l.state l.focused l.filter l.side l.here)

abbrev pub decreases-loop-filter : goal.decreases-loop-filter
decreases-loop-filter l = length (list l.state l.focused l.filter l.side l.here)
