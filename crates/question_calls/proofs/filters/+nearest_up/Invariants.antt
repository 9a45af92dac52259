-- `filters::nearest_up` asks of the parent: the measure is how many nodes there are from the node up. Assumes nothing.
use lib.ListN.{length}
use Rattle.question_calls.specs.Plain.{up_from}
use Rattle.question_calls.proofs.filters.+nearest_up.Given as goal

abbrev pub decreases-nearest_up : goal.decreases-nearest_up
decreases-nearest_up l = length (up_from l.state.now l.i)
