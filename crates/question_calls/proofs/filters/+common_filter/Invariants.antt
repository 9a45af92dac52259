-- `filters::common_filter` asks of the parent: the measure is the node's depth. Assumes nothing.
use lib.ListN.{length}
use Rattle.state_array.specs.View.{id_in, view}
use Rattle.questions.specs.Links.{ancestors}
use Rattle.question_calls.proofs.filters.+common_filter.Given as goal

abbrev pub decreases-common_filter : goal.decreases-common_filter
decreases-common_filter l = length (ancestors (view l.state.now).forest (id_in l.state.now l.i))
