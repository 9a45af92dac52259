-- `cartgravel_plain::result_number` meets its contract: by the variant. Assumes nothing.
use mathlib.Core.Path.{refl}
use Rattle.node_answers.specs.Filter.{result_number}
use Rattle.cartgravel_plain.proofs.result_number.Goals as goal

pub returns-in-Include : goal.returns-in-Include
unfolding result_number
returns-in-Include c = rw c.in-Include.is refl

pub returns-in-ExcludeNode : goal.returns-in-ExcludeNode
unfolding result_number
returns-in-ExcludeNode c = rw c.in-ExcludeNode.is refl

pub returns-in-ExcludeSubtree : goal.returns-in-ExcludeSubtree
unfolding result_number
returns-in-ExcludeSubtree c = rw c.in-ExcludeSubtree.is refl
