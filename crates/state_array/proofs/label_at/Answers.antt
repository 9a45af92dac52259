-- `state_array::label_at` meets its contract: four words. Assumes nothing.
use Rattle.std.proofs.Common.{rules}
use Rattle.state_array.proofs.Made.{array_made}
use Rattle.state_array.proofs.label_at.Goals as goal

pub returns : goal.returns
returns c = array_made _ _ _ _ (λ i y q k. search rules) 4 c.from_fn.ensures.items
