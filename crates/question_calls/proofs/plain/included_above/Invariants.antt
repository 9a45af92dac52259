-- `plain::included_above` meets its contract: what is found of the ancestors that are left is what is found of all. The measure is how
-- many are left. Assumes nothing.
use mathlib.Core.Bool.{false}
use mathlib.Core.Path.{◌≡◌}
use Prim.Native.Nat.{◌+◌, ◌≤◌, ◌<◌}
use lib.ListN.{length}
use Rattle.state_array.specs.View.{id_in, slots_of, view}
use Rattle.questions.specs.Links.{is_hidden}
use Rattle.question_calls.proofs.plain.Above.{Climbed}
use Rattle.question_calls.specs.Plain.{up_from}
use Rattle.question_calls.proofs.plain.included_above.Given as goal

abbrev pub invariant-loop-p : goal.invariant-loop-p
invariant-loop-p l = (l.n ≡ slots_of l.state)
    × (l.level + length (up_from l.state l.p) ≤ 320)
    × (l.i < slots_of l.state → is_hidden (view l.state).forest (id_in l.state l.i) ≡ false → Climbed l.state l.focused (id_in l.state l.i) l.p l.level)

abbrev pub decreases-loop-p : goal.decreases-loop-p
decreases-loop-p l = length (up_from l.state l.p)
