-- `reasons_shape::shape` meets its contract: one rule after another. Assumes nothing.
use Rattle.reasons_shape.proofs.Chain.{chain, shape_in_order}
use borrow.Author.Rules.{rules}
use Rattle.reasons_shape.proofs.shape.Goals as goal

pub returns-then-link-ne0 : goal.returns-then-link-ne0
returns-then-link-ne0 c = search (rules, chain, shape_in_order) depth 9

pub returns-then-tree-ne0 : goal.returns-then-tree-ne0
returns-then-tree-ne0 c = search (rules, chain, shape_in_order) depth 9

pub returns : goal.returns
returns c = search (rules, chain, shape_in_order) depth 9
