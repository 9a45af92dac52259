-- `state_array::link_at` meets its contract: four reads. Assumes nothing.
use Rattle.state_array.specs.View.{link_in}
use Rattle.state_array.proofs.link_at.Goals as goal

pub returns : goal.returns
unfolding link_in
returns c =
    rw (
      c.word_at-4.ensures,
      c.word_at-3.ensures,
      c.word_at-2.ensures,
      c.narrow.ensures,
      c.word_at.ensures,
    )
