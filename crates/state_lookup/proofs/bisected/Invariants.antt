-- `state_lookup::bisected` meets its contract: where the ids ascend, slots below `low` stand before the id, and those past what is left do not. Assumes nothing.
use Rattle.state_array.specs.View.{id_in}
use Rattle.state_lookup.proofs.Order.{Bisected}
use Rattle.state_lookup.proofs.bisected.Given as goal

abbrev pub invariant-loop-left : goal.invariant-loop-left
invariant-loop-left l = Bisected l.n (id_in l.state) l.id l.low l.left

abbrev pub decreases-loop-left : goal.decreases-loop-left
decreases-loop-left l = l.left
