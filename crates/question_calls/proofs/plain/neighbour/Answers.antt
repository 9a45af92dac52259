-- `plain::neighbour` meets its contract: the first node of what is listed. Assumes nothing.
use Rattle.question_calls.specs.Plain.{own_filter, shown_ahead}
use Rattle.question_calls.proofs.plain.Listed.{listed_head}
use Rattle.question_calls.proofs.plain.neighbour.Goals as goal

pub returns : goal.returns
unfolding shown_ahead
returns c = λ sound there. listed_head (own_filter _) _ _ _ _ _ (c.after-next.ensures sound there) c.shown_from-found.ensures
