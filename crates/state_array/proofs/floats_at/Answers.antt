-- `state_array::floats_at` meets its contract: ten patterns. Assumes nothing.
use Rattle.std.proofs.Common.{rules}
use Rattle.state_array.specs.Stored.{float_words}
use Rattle.state_array.proofs.Made.{array_made}
use Rattle.state_array.proofs.floats_at.Goals as goal

pub returns : goal.returns
unfolding float_words
returns c = array_made _ _ _ _ (λ i y q k. search rules) 10 c.from_fn.ensures.items
