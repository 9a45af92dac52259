-- `state_sound::grafts_are_bare` meets its contract: each node passed is bare. Assumes nothing.
use Rattle.base.proofs.Scan.{Passed}
use Rattle.state_rules.specs.Parts.{bare_in}
use Rattle.state_sound.proofs.grafts_are_bare.Given as goal

abbrev pub invariant-loop-i : goal.invariant-loop-i
invariant-loop-i l = Passed (bare_in l.state) l.n l.i
