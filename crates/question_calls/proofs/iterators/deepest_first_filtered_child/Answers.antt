-- `iterators::deepest_first_filtered_child` meets its contract: the child on its side. Assumes nothing.
use Rattle.question_calls.specs.Shown.{deepest_on}
use Rattle.question_calls.proofs.iterators.deepest_first_filtered_child.Goals as goal

pub returns : goal.returns
unfolding deepest_on
returns c = c.deepest_child.ensures
