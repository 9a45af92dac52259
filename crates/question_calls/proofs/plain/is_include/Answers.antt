-- `plain::is_include` meets its contract, case by case. Assumes nothing.
use mathlib.Core.Path.{refl}
use Rattle.question_calls.specs.Plain.{is_include}
use Rattle.question_calls.proofs.plain.is_include.Goals as goal

pub returns-in-Include : goal.returns-in-Include
unfolding is_include
returns-in-Include c = rw c.in-Include.is refl

pub returns-in-ExcludeNode : goal.returns-in-ExcludeNode
unfolding is_include
returns-in-ExcludeNode c = rw c.in-ExcludeNode.is refl

pub returns-in-ExcludeSubtree : goal.returns-in-ExcludeSubtree
unfolding is_include
returns-in-ExcludeSubtree c = rw c.in-ExcludeSubtree.is refl
