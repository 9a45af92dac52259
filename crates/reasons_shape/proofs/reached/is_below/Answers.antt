-- `reasons_shape::reached::is_below` meets its contract: the id stands at no place passed. Assumes nothing.
use borrow.Author.Rules.{rules}
use Rattle.ids.proofs.Ids.{id_test}
use Rattle.reasons_shape.proofs.reached.Below.{looking_start, looking_end, looking_none, looking_hit, looking_more}
use Rattle.reasons_shape.proofs.reached.is_below.Goals as goal

pub loop-j-init : goal.loop-j-init
loop-j-init c = search (rules, looking_start)

pub returns-in_default : goal.returns-in_default
returns-in_default c = search (rules, looking_none)

pub returns-then-eq : goal.returns-then-eq
returns-then-eq c = search (rules, id_test, looking_hit)

pub loop-j-preserved : goal.loop-j-preserved
loop-j-preserved c = search (rules, id_test, looking_more)

pub returns : goal.returns
returns c = search (rules, looking_end)
