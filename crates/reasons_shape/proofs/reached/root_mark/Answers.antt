-- `reasons_shape::reached::root_mark` meets its contract: the root, and any other. Assumes nothing.
use borrow.Author.Rules.{rules}
use Rattle.ids.proofs.Ids.{id_test}
use Rattle.reasons_shape.proofs.reached.Marks.{root_mark_lem, other_mark}
use Rattle.reasons_shape.proofs.reached.root_mark.Goals as goal

pub returns-then-eq : goal.returns-then-eq
returns-then-eq c = search (rules, id_test, root_mark_lem)

pub returns : goal.returns
returns c = search (rules, id_test, other_mark)
