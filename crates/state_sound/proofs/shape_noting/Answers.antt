-- `state_sound::shape_noting` meets its contract: the rules that do not go down, and the way down. Assumes nothing.
use borrow.Author.Rules.{rules}
use Rattle.base.specs.Tests.{◌and◌}
use Rattle.base.proofs.Tests.{call_true}
use Rattle.state_lookup.proofs.Order.{ordered_is}
use Rattle.state_sound.proofs.Decide.{shape_ordered, shape_unordered}
use Rattle.state_sound.proofs.shape_noting.Goals as goal

pub returns-then-not-ordered : goal.returns-then-not-ordered
returns-then-not-ordered c = search (rules, shape_unordered)

pub trees_are_sound-requires : goal.trees_are_sound-requires
trees_are_sound-requires c = rw (← ordered_is _) (call_true c.ordered.ensures c.if-not-ordered.false)

pub is_linked-requires : goal.is_linked-requires
is_linked-requires c = rw (← ordered_is _) (call_true c.ordered.ensures c.if-not-ordered.false)

pub returns : goal.returns
unfolding ◌and◌
returns c =
    cc (shape_ordered c.args.state.now (call_true c.ordered.ensures c.if-not-ordered.false))
