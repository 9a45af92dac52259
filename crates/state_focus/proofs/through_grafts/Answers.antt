-- `state_focus::through_grafts` meets its contract: what the way leads to from here is what it leads to from x. Assumes nothing.
use borrow.Author.Rules.{rules}
use native.Mathlib.Nat.{sub-zero}
use Rattle.state_focus.proofs.Way.{way_absent, way_plain, way_lost, way_spent, way_on}
use Rattle.state_focus.proofs.through_grafts.Goals as goal

pub loop-init : goal.loop-init
loop-init c = rw (c.trees-end.ensures, sub-zero)

pub returns-then-n-i : goal.returns-then-n-i
returns-then-n-i c = search (rules, way_absent)

pub returns-then-not-is_graft : goal.returns-then-not-is_graft
returns-then-not-is_graft c = search (rules, way_plain)

pub returns-in_err-e : goal.returns-in_err-e
returns-in_err-e c = search (rules, way_lost)

pub returns : goal.returns
returns c = search (rules, way_spent)

pub loop-preserved : goal.loop-preserved
loop-preserved c = search (rules, way_on)
