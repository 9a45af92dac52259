-- `state_array::put_words` meets its contract. The words before k are in their places. Assumes nothing.
use Rattle.state_array.proofs.Put.{puts_none, puts_more}
use Rattle.state_array.proofs.put_words.Goals as goal

pub loop-k-init : goal.loop-k-init
loop-k-init c = puts_none _ _ _

pub loop-k-preserved : goal.loop-k-preserved
loop-k-preserved c = rw (c.put_word.ensures, c.loop-k.invariant) (puts_more _ _ _ _)
