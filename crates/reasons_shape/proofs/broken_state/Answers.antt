-- `reasons_shape::broken_state` meets its contract: one rule after another. Assumes nothing.
use Rattle.reasons_shape.proofs.Chain.{chain, rule_next, rule_last, state_in_order}
use borrow.Author.Rules.{rules}
use Rattle.reasons_shape.proofs.broken_state.Goals as goal

pub returns-then-nodes-ne0 : goal.returns-then-nodes-ne0
returns-then-nodes-ne0 c = search (rules, chain, state_in_order) depth 9

pub returns-then-trees-ne0 : goal.returns-then-trees-ne0
returns-then-trees-ne0 c = search (rules, chain, state_in_order) depth 9

pub returns-then-shape-ne0 : goal.returns-then-shape-ne0
returns-then-shape-ne0 c = search (rules, chain, state_in_order) depth 9

pub returns-then-field-ne0 : goal.returns-then-field-ne0
returns-then-field-ne0 c = search (rules, chain, state_in_order) depth 9

pub returns : goal.returns
returns c =
    state_in_order _ _
    (rule_next _ _ _ c.node_count-nodes.ensures
    c.if-nodes-ne0.false
    (rule_next _ _ _ c.tree_count-trees.ensures c.if-trees-ne0.false
    (rule_next _ _ _ c.shape-shape.ensures c.if-shape-ne0.false
    (rule_next _ _ _ c.fields-field.ensures c.if-field-ne0.false (rule_last _ _ c.focus.ensures)))))
