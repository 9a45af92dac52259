-- `reasons_shape::links::is_unmet` meets its contract: one test. Assumes nothing.
use Rattle.reasons_shape.proofs.LinkRules.{told_none}
use borrow.Author.Rules.{rules}
use Rattle.reasons_shape.proofs.links.is_unmet.Goals as goal

pub returns : goal.returns
returns c = search (rules, told_none)
