-- `links::first_child_slot` meets its contract, side by side. Assumes nothing.
use borrow.Author.Rules.{rules}
use Rattle.question_calls.proofs.links.Siblings.{first_is}
use Rattle.question_calls.proofs.links.first_child_slot.Goals as goal

pub enum_told-1 : goal.enum_told-1
enum_told-1 c = search rules

pub enum_told-in-Preceding : goal.enum_told-in-Preceding
enum_told-in-Preceding c = search rules

pub returns-in-Following : goal.returns-in-Following
returns-in-Following c = λ sound there. rw c.in-Following.is (first_is _ sound _ _ (c.child_slot.ensures sound there))

pub returns-in-Preceding : goal.returns-in-Preceding
returns-in-Preceding c = λ sound there. rw c.in-Preceding.is (c.last_child_slot.ensures sound there)
