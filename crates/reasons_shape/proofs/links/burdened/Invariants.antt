-- `reasons_shape::links::burdened` meets its contract: each graft passed is bare. Assumes nothing.
use Rattle.reasons_shape.proofs.Slots.{Seeking}
use Rattle.state.specs.Sound.{graft_is_bare}
use mathlib.Core.Bool.{not}
use Rattle.reasons_shape.proofs.links.burdened.Given as goal

abbrev pub invariant-loop-i : goal.invariant-loop-i
invariant-loop-i l = Seeking l.state (λ n. not (graft_is_bare n)) l.i
