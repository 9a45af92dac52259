use borrow.Author.Rules.{rules}
use Rattle.std.specs.Cmp.Rules.{comparing}
use Rattle.base.specs.Tests.{◌and◌}
use Rattle.ids.specs.Ids.{same_index, before}
use Rattle.ids.proofs.is_before.Goals as goal

pub returns : goal.returns
unfolding before same_index ◌and◌
returns c = search (comparing, rules)
