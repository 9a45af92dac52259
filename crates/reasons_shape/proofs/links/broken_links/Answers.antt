-- `reasons_shape::links::broken_links` meets its contract: one rule after another. Assumes nothing.
use Rattle.reasons_shape.proofs.Chain.{chain, links_in_order}
use Rattle.reasons_shape.proofs.LinkRules.{few_kept}
use borrow.Author.Rules.{rules}
use Rattle.reasons_shape.proofs.links.broken_links.Goals as goal

pub returns-then-crowd-ne0 : goal.returns-then-crowd-ne0
returns-then-crowd-ne0 c = search (rules, chain, links_in_order) depth 9

pub absence-absence-requires : goal.absence-absence-requires
absence-absence-requires c = search (rules, few_kept)

pub returns-then-absence-ne0 : goal.returns-then-absence-ne0
returns-then-absence-ne0 c = search (rules, chain, links_in_order) depth 9

pub broken_ways-requires : goal.broken_ways-requires
broken_ways-requires c = search (rules, few_kept)

pub returns : goal.returns
returns c = search (rules, chain, links_in_order) depth 9
