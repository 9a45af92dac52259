-- `rows::root_after` meets its contract: a law for each way out. Assumes nothing.
use borrow.Author.Rules.{rules}
use Rattle.calls.proofs.rows.Given.{root_given, root_missing, root_own}
use Rattle.calls.proofs.rows.root_after.Goals as goal

pub returns-then-has_tree_data : goal.returns-then-has_tree_data
returns-then-has_tree_data c = search root_given

pub returns-in_err-e : goal.returns-in_err-e
returns-in_err-e c = search (rules, root_missing)

pub returns : goal.returns
returns c = root_own _ _ c.has_tree_data.ensures c.if-has_tree_data.false c.tree_id.ensures _ c.tree_of.ensures c.in_ok-e.was
