-- `reasons_shape::reached::add_below` meets its contract: the links of each place passed are added. Assumes nothing.
use borrow.Author.Rules.{rules}
use Rattle.ids.proofs.Ids.{id_test}
use Rattle.reasons_shape.proofs.reached.Meeting.{adding_end, adding_none, adding_other, adding_more}
use Rattle.reasons_shape.proofs.reached.add_below.Goals as goal

pub returns-in_default : goal.returns-in_default
returns-in_default c ls t = search (rules, adding_none)

pub loop-place-preserved-then-ne : goal.loop-place-preserved-then-ne
loop-place-preserved-then-ne c = search (rules, id_test, adding_other)

pub loop-place-preserved : goal.loop-place-preserved
loop-place-preserved c = search (rules, id_test, adding_more)

pub returns : goal.returns
returns c ls t = search (rules, adding_end)
