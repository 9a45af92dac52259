-- `links::sibling_slot` meets its contract, side by side. Assumes nothing.
use Rattle.question_calls.proofs.links.sibling_slot.Goals as goal

pub returns-in-Following : goal.returns-in-Following
returns-in-Following c = λ sound there. rw c.in-Following.is (c.following_slot.ensures sound there)

pub returns-in-Preceding : goal.returns-in-Preceding
returns-in-Preceding c = λ sound there. rw c.in-Preceding.is (c.preceding_slot.ensures sound there)
