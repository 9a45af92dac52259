-- `reasons_shape::links::broken_ways` meets its contract: one rule after another. Assumes nothing.
use Rattle.reasons_shape.proofs.Chain.{chain, rule_next, rule_last, ways_in_order}
use borrow.Author.Rules.{rules}
use Rattle.reasons_shape.proofs.links.broken_ways.Goals as goal

pub returns-then-twice-ne0 : goal.returns-then-twice-ne0
returns-then-twice-ne0 c = search (rules, chain, ways_in_order) depth 9

pub returns-then-never-ne0 : goal.returns-then-never-ne0
returns-then-never-ne0 c = search (rules, chain, ways_in_order) depth 9

pub returns-then-link-ne0 : goal.returns-then-link-ne0
returns-then-link-ne0 c = search (rules, chain, ways_in_order) depth 9

pub returns : goal.returns
returns c =
    ways_in_order _ _
    (rule_next _ _ _ c.met_twice-twice.ensures
    c.if-twice-ne0.false
    (rule_next _ _ _ c.never_met-never.ensures c.if-never-ne0.false
    (rule_next _ _ _ c.wrong_link-link.ensures c.if-link-ne0.false (rule_last _ _ c.burdened.ensures))))
