-- `cartgravel::asking::cartgravel_deepest_first_filtered_child` meets its contract: by the number, as the question does, or 1 or 2 alone. Assumes nothing.
use mathlib.Core.Path.{refl}
use Rattle.cartgravel.specs.Questions.{node_reply}
use Rattle.cartgravel.proofs.asking.cartgravel_deepest_first_filtered_child.Goals as goal

pub returns-in-Some : goal.returns-in-Some
unfolding node_reply
returns-in-Some c = rw (← c.filter_of.ensures, c.in-Some.is, c.found.ensures, c.deepest_first_filtered_child.ensures) refl

pub returns-in-None : goal.returns-in-None
unfolding node_reply
returns-in-None c = rw (← c.filter_of.ensures, c.in-None.is, c.no_node.ensures) refl
