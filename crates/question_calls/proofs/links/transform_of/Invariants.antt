-- `links::transform_of` meets its contract: what is left to climb from here makes the whole. Assumes nothing.
use mathlib.Core.Path.{◌≡◌}
use Prim.Native.Nat.{◌-◌, ◌<◌}
use lib.ListN.{length}
use Rattle.state_array.specs.View.{id_in, slots_of, view}
use Rattle.questions.specs.Links.{ancestors}
use Rattle.questions.specs.Boxes.{transform}
use Rattle.question_calls.specs.Slots.{Sound}
use Rattle.question_calls.proofs.links.Up.{chain_from}
use Rattle.question_calls.proofs.links.transform_of.Given as goal

abbrev pub invariant-loop : goal.invariant-loop
invariant-loop l = Sound l.state → l.i < slots_of l.state
    → (chain_from l.state l.whole l.p ≡ transform (view l.state).forest (id_in l.state l.i))
    × (l.p < slots_of l.state → length (ancestors (view l.state).forest (id_in l.state l.p)) < 320 - l.counter)
