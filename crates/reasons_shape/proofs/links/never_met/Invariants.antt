-- `reasons_shape::links::never_met` meets its contract: each node passed is met. Assumes nothing.
use Rattle.reasons.specs.Shape.{is_never_met}
use Rattle.reasons_shape.specs.Reached.{reached_in}
use Rattle.reasons_shape.proofs.Slots.{Seeking}
use Rattle.state_array.specs.View.{view}
use Rattle.reasons_shape.proofs.links.never_met.Given as goal

abbrev pub invariant-loop-i : goal.invariant-loop-i
invariant-loop-i l = Seeking l.state (is_never_met (view l.state).forest (reached_in l.state)) l.i
