-- `shown::go_on` meets its contract: into the node, or past it. Assumes nothing.
use Rattle.question_calls.specs.Shown.{met_after}
use Rattle.question_calls.proofs.shown.go_on.Goals as goal

pub returns-then-inside : goal.returns-then-inside
unfolding met_after
returns-then-inside c = λ sound there. rw c.if-inside.true (c.into.ensures sound there)

pub returns : goal.returns
unfolding met_after
returns c = λ sound there. rw c.if-inside.false (c.after.ensures sound there)
