-- `plain::unlisted` meets its contract, case by case. Assumes nothing.
use Rattle.question_calls.specs.Plain.{unlisted}
use Rattle.question_calls.proofs.plain.unlisted.Goals as goal

pub returns-in-Include : goal.returns-in-Include
unfolding unlisted
returns-in-Include c = λ sound there. rw c.in-Include.is (c.after.ensures sound there)

pub returns-in-ExcludeNode : goal.returns-in-ExcludeNode
unfolding unlisted
returns-in-ExcludeNode c = λ sound there. rw c.in-ExcludeNode.is (c.into.ensures sound there)

pub returns-in-ExcludeSubtree : goal.returns-in-ExcludeSubtree
unfolding unlisted
returns-in-ExcludeSubtree c = λ sound there. rw c.in-ExcludeSubtree.is (c.after-in-ExcludeSubtree.ensures sound there)
