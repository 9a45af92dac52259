-- `state_sound::grafts_differ` meets its contract: each graft passed is new, and has its mark. Assumes nothing.
use Rattle.state_rules.proofs.Grafts.{Marking}
use Rattle.state_sound.proofs.grafts_differ.Given as goal

abbrev pub invariant-loop-i : goal.invariant-loop-i
invariant-loop-i l = Marking l.state l.n l.seen l.i
