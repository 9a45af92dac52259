-- `reasons_shape::reached::leads_to` meets its contract: a law for each way out. Assumes nothing.
use borrow.Author.Rules.{rules}
use Rattle.reasons_shape.proofs.reached.Marks.{leads_not, leads_if}
use Rattle.reasons_shape.proofs.reached.leads_to.Goals as goal

pub returns-then-marks-p-ne2 : goal.returns-then-marks-p-ne2
returns-then-marks-p-ne2 c = search (rules, leads_not)

pub returns : goal.returns
returns c = search (rules, leads_if)
