-- `filters::is_exclude_subtree` meets its contract: case by case. Assumes nothing.
use mathlib.Core.Path.{refl}
use Rattle.questions.specs.Filters.{is_exclude_subtree}
use Rattle.question_calls.proofs.filters.is_exclude_subtree.Goals as goal

pub returns-in-Include : goal.returns-in-Include
unfolding is_exclude_subtree
returns-in-Include c = rw c.in-Include.is refl

pub returns-in-ExcludeNode : goal.returns-in-ExcludeNode
unfolding is_exclude_subtree
returns-in-ExcludeNode c = rw c.in-ExcludeNode.is refl

pub returns-in-ExcludeSubtree : goal.returns-in-ExcludeSubtree
unfolding is_exclude_subtree
returns-in-ExcludeSubtree c = rw c.in-ExcludeSubtree.is refl
