-- `links::hidden_up` climbs one step with one room less. Assumes nothing.
use Rattle.question_calls.proofs.links.+hidden_up.Given as goal

abbrev pub decreases-hidden_up : goal.decreases-hidden_up
decreases-hidden_up l = l.room
