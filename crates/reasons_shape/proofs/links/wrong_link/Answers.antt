-- `reasons_shape::links::wrong_link` meets its contract: each node passed records the link under which it is met. Assumes nothing.
use Rattle.reasons_shape.proofs.LinkRules.{agreeing_more, agreeing_fails, agreeing_end}
use borrow.Author.Rules.{rules}
use Rattle.reasons_shape.proofs.links.wrong_link.Goals as goal

pub returns-then-not-same_link : goal.returns-then-not-same_link
returns-then-not-same_link c =
    agreeing_fails c.loop-i.invariant
    c.slots-n.ensures
    c.loop-i-test.true
    c.link_at-l.ensures c.id_at.ensures
    c.met_links-met.ensures c.same_link.ensures
    c.if-not-same_link.true c.id_found.ensures c.parent_of.ensures
    c.parent_of-then-not-same_link.ensures c.of_node.ensures

pub loop-i-preserved : goal.loop-i-preserved
loop-i-preserved c = search (rules, agreeing_more)

pub returns : goal.returns
returns c = search (rules, agreeing_end)
