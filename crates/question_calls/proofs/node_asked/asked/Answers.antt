-- `node_asked::asked` meets its contract: refused, or what is found in the sound state. Assumes nothing.
use Rattle.question_calls.proofs.node_asked.Asks.{asks_unsound}
use Rattle.question_calls.proofs.node_asked.asked.Goals as goal

pub returns-in_err-noted : goal.returns-in_err-noted
returns-in_err-noted c = asks_unsound _ _ _ _ c.from_residual.ensures.1 c.in_err-noted.ensures.number
