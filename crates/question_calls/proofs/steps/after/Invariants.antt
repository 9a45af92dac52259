-- `steps::after` meets its contract: what is ahead from here is what is ahead of the node it began at. Assumes nothing.
use mathlib.Core.Path.{◌≡◌}
use Prim.Native.Nat.{◌<◌}
use Rattle.state_array.specs.View.{id_in, slots_of, view}
use Rattle.questions.specs.Ahead.{ahead}
use Rattle.question_calls.specs.Slots.{Sound}
use Rattle.question_calls.proofs.steps.after.Given as goal

abbrev pub invariant-loop-level : goal.invariant-loop-level
invariant-loop-level l = Sound l.state → l.fn.at.slot < slots_of l.state
    → (l.i < slots_of l.state) × (ahead l.side (view l.state).forest l.level (id_in l.state l.i) ≡ ahead l.side (view l.state).forest l.fn.at.level (id_in l.state l.fn.at.slot))
