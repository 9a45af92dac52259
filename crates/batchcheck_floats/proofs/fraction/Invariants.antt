-- `batchcheck_floats::fraction`: each turn goes to a smaller place.
use Rattle.batchcheck_floats.proofs.fraction.Given as goal

abbrev pub decreases-loop-place : goal.decreases-loop-place
decreases-loop-place l = l.place
