-- `shown::included_from` meets its contract: what is found of the ancestors that are left is what is found of all. The measure is
-- how many are left. Assumes nothing.
use mathlib.Core.Path.{◌≡◌}
use lib.ListN.{length}
use Rattle.state_array.specs.View.{slots_of}
use Rattle.questions.specs.Filters.{without_parent_checks}
use Rattle.question_calls.specs.Plain.{seen_at, first_included, up_from}
use Rattle.question_calls.proofs.shown.included_from.Given as goal

abbrev pub invariant-loop-p : goal.invariant-loop-p
invariant-loop-p l = (l.n ≡ slots_of l.state) × (first_included (without_parent_checks (seen_at l.state l.focused)) (up_from l.state l.p) ≡ first_included (without_parent_checks (seen_at l.state l.focused)) (up_from l.state l.from))

abbrev pub decreases-loop-p : goal.decreases-loop-p
decreases-loop-p l = length (up_from l.state l.p)
