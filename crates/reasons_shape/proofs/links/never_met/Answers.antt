-- `reasons_shape::links::never_met` meets its contract: each node passed is met. Assumes nothing.
use Rattle.reasons_shape.proofs.LinkRules.{never_is, unmet_kept, unmet_broken}
use Rattle.reasons_shape.proofs.Slots.{seeking_more}
use borrow.Author.Rules.{rules}
use Rattle.reasons_shape.proofs.links.never_met.Goals as goal

pub returns-then-is_unmet : goal.returns-then-is_unmet
returns-then-is_unmet c = search (rules, unmet_broken)

pub loop-i-preserved : goal.loop-i-preserved
loop-i-preserved c = search (rules, seeking_more, never_is)

pub returns : goal.returns
returns c = search (rules, unmet_kept)
