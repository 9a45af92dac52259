-- `reasons_shape::reached::next_mark` meets its contract: a law for each way out. Assumes nothing.
use borrow.Author.Rules.{rules}
use Rattle.reasons_shape.proofs.reached.Marks.{mark_old, mark_none, mark_new}
use Rattle.reasons_shape.proofs.reached.next_mark.Goals as goal

pub returns-then-marks-i-ne0 : goal.returns-then-marks-i-ne0
returns-then-marks-i-ne0 c = search (rules, mark_old)

pub returns-then-none_leads : goal.returns-then-none_leads
returns-then-none_leads c = search (rules, mark_none)

pub returns : goal.returns
returns c = search (rules, mark_new)
