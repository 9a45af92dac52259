-- `reasons_shape::links::is_met_twice` meets its contract: one test. Assumes nothing.
use Rattle.reasons_shape.proofs.LinkRules.{twice_is}
use borrow.Author.Rules.{rules}
use Rattle.reasons_shape.proofs.links.is_met_twice.Goals as goal

pub returns : goal.returns
returns c = search (rules, twice_is)
