-- `state_sound::is_rooted` meets its contract: a law for each way out. Assumes nothing.
use borrow.Author.Rules.{rules}
use Rattle.base.specs.Tests.{◌and◌}
use Rattle.state_rules.proofs.Trees.{rooted_unborn, rooted_born}
use Rattle.state_sound.proofs.is_rooted.Goals as goal

pub returns-then-t-eq0 : goal.returns-then-t-eq0
returns-then-t-eq0 c = search (rules, rooted_unborn)

pub returns : goal.returns
unfolding ◌and◌
returns c =
    let row = c.tree_at-t.ensures in
    cc (rooted_born c.args.state.now c.args.k row c.if-t-eq0.false c.slot_of.ensures c.requires.0)
