-- `shown::climb` meets its contract: the ancestors that are left are those after the ones passed. The measure is how many are left.
-- Assumes nothing.
use mathlib.Core.Path.{◌≡◌}
use Prim.Native.Nat.{◌+◌, ◌≤◌, ◌<◌}
use lib.ListN.{length}
use Rattle.state_array.specs.View.{id_in, slots_of}
use Rattle.questions.specs.Filters.{filter_of}
use Rattle.question_calls.specs.Slots.{Sound}
use Rattle.question_calls.specs.Plain.{seen_at, up_from}
use Rattle.question_calls.proofs.shown.Above.{Climbing}
use Rattle.question_calls.proofs.shown.climb.Given as goal

abbrev pub invariant-loop-p : goal.invariant-loop-p
invariant-loop-p l = (l.n ≡ slots_of l.state)
    × (l.level + length (up_from l.state l.p) ≤ 320)
    × ((sound : Sound l.state) → l.i < slots_of l.state → Climbing (filter_of l.filter (seen_at l.state l.focused)) l.state sound (id_in l.state l.i) l.p l.level)

abbrev pub decreases-loop-p : goal.decreases-loop-p
decreases-loop-p l = length (up_from l.state l.p)
