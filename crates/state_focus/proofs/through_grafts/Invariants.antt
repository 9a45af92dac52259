-- `state_focus::through_grafts` meets its contract: what the way leads to from here is what it leads to from x. Assumes nothing.
use mathlib.Core.Path.{◌≡◌}
use Prim.Native.Nat.{◌+◌, ◌-◌}
use Rattle.state.specs.Focus.{through_grafts}
use Rattle.state_array.specs.View.{trees_of, view}
use Rattle.state_focus.proofs.through_grafts.Given as goal

abbrev pub invariant-loop : goal.invariant-loop
invariant-loop l = through_grafts (l.end - l.counter) (view l.state).forest l.at ≡ through_grafts (trees_of l.state + 1) (view l.state).forest l.initial.at
