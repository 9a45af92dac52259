-- `pass::takes` meets its contract. Assumes nothing.
use borrow.Author.Rules.{rules}
use Rattle.ids.proofs.Ids.{tree_test}
use Rattle.calls.specs.Steps.{is_taken}
use Rattle.calls.proofs.pass.Faults.{untaken, taken}
use Rattle.calls.proofs.pass.takes.Goals as goal

pub returns-then-done-i : goal.returns-then-done-i
unfolding is_taken
returns-then-done-i c = search untaken

pub returns : goal.returns
unfolding is_taken
returns c = search (rules, tree_test, taken)
