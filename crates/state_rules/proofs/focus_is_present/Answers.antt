-- `state_rules::focus_is_present` meets its contract: a law for each way out. Assumes nothing.
use borrow.Author.Rules.{rules}
use Rattle.state_rules.proofs.Focus.{focus_nowhere, focus_found}
use Rattle.state_rules.proofs.focus_is_present.Goals as goal

pub returns-in_default : goal.returns-in_default
returns-in_default c = search (rules, focus_nowhere)

pub returns : goal.returns
returns c = search (rules, focus_found)
