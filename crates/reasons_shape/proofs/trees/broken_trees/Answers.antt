-- `reasons_shape::trees::broken_trees` meets its contract: one rule after another. Assumes nothing.
use Rattle.reasons_shape.proofs.Chain.{chain, trees_in_order}
use borrow.Author.Rules.{rules}
use Rattle.reasons_shape.proofs.trees.broken_trees.Goals as goal

pub returns-then-graft-ne0 : goal.returns-then-graft-ne0
returns-then-graft-ne0 c = search (rules, chain, trees_in_order) depth 9

pub returns-then-root-ne0 : goal.returns-then-root-ne0
returns-then-root-ne0 c = search (rules, chain, trees_in_order) depth 9

pub returns-then-tree-ne0 : goal.returns-then-tree-ne0
returns-then-tree-ne0 c = search (rules, chain, trees_in_order) depth 9

pub returns : goal.returns
returns c = search (rules, chain, trees_in_order) depth 9
