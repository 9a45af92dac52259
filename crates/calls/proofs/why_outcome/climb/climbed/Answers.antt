-- `why_outcome::climb::climbed` meets its contract: what is lost from here is what is lost from slot i. Assumes nothing.
use native.Mathlib.Omega.{arith}
use borrow.Author.Rules.{rules}
use Rattle.calls.proofs.why_outcome.Climbs.{told_fewer, climbing_starts, climbing_ends, climbing_goes, climbing_over}
use Rattle.calls.proofs.why_outcome.climb.climbed.Goals as goal

pub loop-init : goal.loop-init
loop-init c = search (rules, climbing_starts)

pub fate_at-requires : goal.fate_at-requires
fate_at-requires c = record { told = told_fewer (omega arith) c.requires.told; i_bound = c.loop.invariant.there }

pub returns-then-fate_at-ne-AS_PARENT : goal.returns-then-fate_at-ne-AS_PARENT
returns-then-fate_at-ne-AS_PARENT c = search (rules, climbing_ends)

pub loop-preserved : goal.loop-preserved
loop-preserved c = search (rules, climbing_goes)

pub returns : goal.returns
returns c = search (rules, climbing_over)
