-- `state_focus::or_active_descendant` meets its contract: a law for each way out. Assumes nothing.
use borrow.Author.Rules.{rules}
use Rattle.state_focus.proofs.Way.{active_absent, active_none, active_there, active_lost}
use Rattle.state_focus.proofs.or_active_descendant.Goals as goal

pub returns-then-n-i : goal.returns-then-n-i
returns-then-n-i c = search (rules, active_absent)

pub returns-then-d-ne1 : goal.returns-then-d-ne1
returns-then-d-ne1 c = search (rules, active_none)

pub returns-then-find_in-n : goal.returns-then-find_in-n
returns-then-find_in-n c = search (rules, active_there)

pub returns-else-find_in-n : goal.returns-else-find_in-n
returns-else-find_in-n c =
    active_lost _ _ c.slots-n.ensures c.find_in-i.ensures c.if-n-i.false
    c.shape_at-d.ensures c.if-d-ne1.false c.active_descendant_at.ensures c.find_in.ensures c.if-find_in-n.false
