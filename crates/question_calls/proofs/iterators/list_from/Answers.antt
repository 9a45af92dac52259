-- `iterators::list_from` meets its contract: nothing is listed, or the buffer holds the list. Assumes nothing.
use native.Mathlib.Omega.{arith}
use Rattle.questions.specs.Filters.{filter_of}
use Rattle.question_calls.proofs.shown.Shown.{listed_nil}
use Rattle.question_calls.proofs.iterators.Lists.{puts_nothing, puts_collected}
use Rattle.question_calls.proofs.iterators.list_from.Goals as goal

pub returns-then-slots-start : goal.returns-then-slots-start
returns-then-slots-start c = puts_nothing _ _ (listed_nil _ _ c.requires.sound (filter_of _ _) _ (rw c.slots.ensures at c.if-slots-start.true))

pub put-requires : goal.put-requires
put-requires c = omega (arith, c.collect-n.ensures.few)

pub returns : goal.returns
returns c = puts_collected _ _ _ _ _ _ _ c.collect-n.ensures c.put.ensures
