-- `state_sound::ids_differ` meets its contract: the id of each tree passed stands nowhere before it. Assumes nothing.
use mathlib.Core.Bool.{not}
use Rattle.base.proofs.Scan.{Passed}
use Rattle.state_rules.proofs.Trees.{old_id}
use Rattle.state_sound.proofs.ids_differ.Given as goal

abbrev pub invariant-loop-k : goal.invariant-loop-k
invariant-loop-k l = Passed (λ i. not (old_id l.state i)) l.m l.k
