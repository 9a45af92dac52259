-- `state_array::body_at` meets its contract: each field is read, and the label is cut. Assumes nothing.
use Rattle.state_array.specs.Stored.{body_words}
use Rattle.state_array.proofs.body_at.Goals as goal

pub returns : goal.returns
returns c =
    unfold body_words in rw (
      c.floats_at.ensures,
      c.label_at.ensures,
      c.word_at-7.ensures,
      c.word_at-6.ensures,
      c.word_at-5.ensures,
      c.word_at-4.ensures,
      c.word_at-3.ensures,
      c.word_at-2.ensures,
      c.word_at.ensures,
    )
