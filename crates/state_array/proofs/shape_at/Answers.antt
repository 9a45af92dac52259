-- `state_array::shape_at` meets its contract: five reads. Assumes nothing.
use Rattle.state_array.specs.View.{shape_in}
use Rattle.state_array.proofs.shape_at.Goals as goal

pub returns : goal.returns
unfolding shape_in
returns c =
    rw (
      c.word_at-5.ensures,
      c.word_at-4.ensures,
      c.word_at-3.ensures,
      c.word_at-2.ensures,
      c.word_at.ensures,
    )
