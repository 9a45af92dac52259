-- `reasons_shape::links::burdened` meets its contract: each graft passed is bare. Assumes nothing.
use Rattle.reasons_shape.proofs.LinkRules.{burden_says, bare_is}
use Rattle.reasons_shape.proofs.Slots.{seeking_more, spot_kept, spot_broken}
use borrow.Author.Rules.{rules}
use Rattle.reasons_shape.proofs.links.burdened.Goals as goal

pub returns-then-not-is_bare : goal.returns-then-not-is_bare
returns-then-not-is_bare c = search (rules, spot_broken, bare_is, burden_says)

pub loop-i-preserved : goal.loop-i-preserved
loop-i-preserved c = search (rules, seeking_more, bare_is)

pub returns : goal.returns
returns c = search (rules, spot_kept)
