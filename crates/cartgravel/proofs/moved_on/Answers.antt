-- `cartgravel::moved_on` meets its contract: what the inner question says, as plain values. Assumes nothing.
use Rattle.cartgravel.specs.Questions.{plain_step}
use Rattle.cartgravel.proofs.moved_on.Goals as goal

pub returns : goal.returns
unfolding plain_step
returns c = cc
