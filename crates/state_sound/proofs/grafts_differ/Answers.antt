-- `state_sound::grafts_differ` meets its contract: each graft passed is new, and has its mark. Assumes nothing.
use borrow.Author.Rules.{rules}
use Rattle.state_rules.proofs.Grafts.{marking_start, marking_none, marking_more, marking_fails, marking_end}
use Rattle.state_sound.proofs.grafts_differ.Goals as goal

pub loop-i-init : goal.loop-i-init
loop-i-init c = search (rules, marking_start)

pub loop-i-preserved-then-not-is_graft : goal.loop-i-preserved-then-not-is_graft
loop-i-preserved-then-not-is_graft c = search (rules, marking_none)

pub returns-then-not-is_new : goal.returns-then-not-is_new
returns-then-not-is_new c = search (rules, marking_fails)

pub loop-i-preserved : goal.loop-i-preserved
loop-i-preserved c = search (rules, marking_more)

pub returns : goal.returns
returns c = search (rules, marking_end)
