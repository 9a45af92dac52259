-- `iterators::last_filtered_child` meets its contract: the child on its side. Assumes nothing.
use Rattle.question_calls.specs.Shown.{filtered_child_on}
use Rattle.question_calls.proofs.iterators.last_filtered_child.Goals as goal

pub returns : goal.returns
unfolding filtered_child_on
returns c = c.filtered_child.ensures
