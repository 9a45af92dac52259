-- `state_array::label_byte` meets its contract: a byte of a word, and 0 past the four words. Assumes nothing.
use borrow.Author.Tests.{lt-ltb, le-ltb}
use Rattle.state_array.specs.View.{label_byte}
use Rattle.state_array.proofs.label_byte.Goals as goal

pub returns-then-j-ge32 : goal.returns-then-j-ge32
unfolding label_byte
returns-then-j-ge32 c = rw (le-ltb c.args.j 32 c.if-j-ge32.true)

pub returns : goal.returns
unfolding label_byte
returns c = rw (lt-ltb c.args.j 32 c.if-j-ge32.false, c.word_at-w.ensures)
