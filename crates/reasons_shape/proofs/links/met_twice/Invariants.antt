-- `reasons_shape::links::met_twice` meets its contract: no node passed is met more than once. Assumes nothing.
use Rattle.reasons.specs.Shape.{is_met_twice}
use Rattle.reasons_shape.specs.Reached.{reached_in}
use Rattle.reasons_shape.proofs.Slots.{Seeking}
use Rattle.state_array.specs.View.{view}
use Rattle.reasons_shape.proofs.links.met_twice.Given as goal

abbrev pub invariant-loop-i : goal.invariant-loop-i
invariant-loop-i l = Seeking l.state (is_met_twice (view l.state).forest (reached_in l.state)) l.i
