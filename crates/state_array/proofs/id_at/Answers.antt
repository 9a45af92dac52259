-- `state_array::id_at` meets its contract: two reads. Assumes nothing.
use Rattle.state_array.specs.View.{id_in}
use Rattle.state_array.proofs.id_at.Goals as goal

pub returns : goal.returns
unfolding id_in
returns c =
    rw (
      c.word_at-2.ensures,
      c.narrow.ensures,
      c.word_at.ensures,
    )
