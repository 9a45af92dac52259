-- `filters::is_exclude_node` meets its contract: case by case. Assumes nothing.
use mathlib.Core.Path.{refl}
use Rattle.question_calls.specs.Filters.{is_exclude_node}
use Rattle.question_calls.proofs.filters.is_exclude_node.Goals as goal

pub returns-in-Include : goal.returns-in-Include
unfolding is_exclude_node
returns-in-Include c = rw c.in-Include.is refl

pub returns-in-ExcludeNode : goal.returns-in-ExcludeNode
unfolding is_exclude_node
returns-in-ExcludeNode c = rw c.in-ExcludeNode.is refl

pub returns-in-ExcludeSubtree : goal.returns-in-ExcludeSubtree
unfolding is_exclude_node
returns-in-ExcludeSubtree c = rw c.in-ExcludeSubtree.is refl
