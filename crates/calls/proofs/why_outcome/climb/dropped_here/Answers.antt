-- `why_outcome::climb::dropped_here` meets its contract: a law for each way out. Assumes nothing.
use native.Mathlib.Omega.{arith}
use borrow.Author.Rules.{rules}
use Rattle.calls.proofs.why_outcome.Climbs.{told_fewer, parent_room, here_top, here_stays, here_goes}
use Rattle.calls.proofs.why_outcome.climb.dropped_here.Goals as goal

pub returns-then-l-eq0 : goal.returns-then-l-eq0
returns-then-l-eq0 c = search (rules, here_top)

pub fate_at-requires : goal.fate_at-requires
fate_at-requires c = record { told = told_fewer (omega arith) c.requires.told; i_bound = c.requires.at_bound }

pub returns-then-fate_at-ne-GOES : goal.returns-then-fate_at-ne-GOES
returns-then-fate_at-ne-GOES c = search (rules, here_stays)

pub listed_parent-requires : goal.listed_parent-requires
listed_parent-requires c = search (rules, parent_room)

pub returns : goal.returns
returns c = search (rules, here_goes)
