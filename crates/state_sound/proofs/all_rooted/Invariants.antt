-- `state_sound::all_rooted` meets its contract: each tree passed is rooted. Assumes nothing.
use Rattle.base.proofs.Scan.{Passed}
use Rattle.state_rules.specs.Parts.{rooted_in}
use Rattle.state_sound.proofs.all_rooted.Given as goal

abbrev pub invariant-loop-k : goal.invariant-loop-k
invariant-loop-k l = Passed (rooted_in l.state) l.m l.k
