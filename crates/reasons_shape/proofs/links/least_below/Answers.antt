-- `reasons_shape::links::least_below` meets its contract: the absent ids of each place passed are compared. Assumes nothing.
use Rattle.reasons_shape.proofs.Least.{lessening_end, lessening_none, lessening_present, lessening_absent}
use borrow.Author.Rules.{rules}
use Rattle.reasons_shape.proofs.links.least_below.Goals as goal

pub returns-in_default : goal.returns-in_default
returns-in_default c xs e = search (rules, lessening_none)

pub loop-place-preserved-then-find_in-n : goal.loop-place-preserved-then-find_in-n
loop-place-preserved-then-find_in-n c = search (rules, lessening_present)

pub loop-place-preserved : goal.loop-place-preserved
loop-place-preserved c = search (rules, lessening_absent)

pub returns : goal.returns
returns c xs e = search (rules, lessening_end)
