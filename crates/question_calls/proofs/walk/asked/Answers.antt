-- `walk::asked` meets its contract: the rows in their order. Assumes nothing.
use Rattle.question_calls.proofs.walk.Steps.{asks_walk_unsound, asks_walk_side, asks_walk_filter, asks_walk}
use Rattle.question_calls.proofs.walk.asked.Goals as goal

pub returns-in_err-noted : goal.returns-in_err-noted
returns-in_err-noted c = asks_walk_unsound _ _ _ _ c.from_residual.ensures.1 c.in_err-noted.ensures.number

pub returns-then-walk-gt1 : goal.returns-then-walk-gt1
returns-then-walk-gt1 c = asks_walk_side _ _ c.in_ok-noted.ensures.sound c.if-walk-gt1.true

pub returns-then-walk-gt3 : goal.returns-then-walk-gt3
returns-then-walk-gt3 c = asks_walk_filter _ _ c.in_ok-noted.ensures.sound c.if-walk-gt3.true

pub returns : goal.returns
returns c = asks_walk _ _ c.in_ok-noted.ensures.sound c.if-walk-gt1.false c.if-walk-gt3.false _ c.standing.ensures
