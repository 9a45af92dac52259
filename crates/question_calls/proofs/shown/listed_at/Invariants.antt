-- `shown::listed_at` meets its contract: the node at a place of the list is the one so much further from here. Assumes nothing.
use Rattle.std.specs.Prelude.{slice_get}
use mathlib.Core.Path.{◌≡◌}
use Prim.Native.Nat.{◌-◌}
use Rattle.questions.specs.Filters.{filter_of}
use Rattle.question_calls.specs.Plain.{seen_at, listed_from}
use Rattle.question_calls.proofs.shown.listed_at.Given as goal

abbrev pub invariant-loop : goal.invariant-loop
invariant-loop l = slice_get (listed_from (filter_of l.filter (seen_at l.state l.focused)) l.side l.state l.here) (l.count - l.counter)
    ≡ slice_get (listed_from (filter_of l.filter (seen_at l.state l.focused)) l.side l.state l.initial.here) l.count
