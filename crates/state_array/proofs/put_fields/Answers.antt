-- `state_array::put_fields` meets its contract: four rows of words, of which the last three stand one after another. Assumes nothing.
use mathlib.Core.Path.{ap, ◌∙◌}
use native.Mathlib.Omega.{arith}
use Rattle.state_array.specs.Layout.{CHILD_COUNT, LABEL, FLOATS}
use Rattle.state_array.specs.Stored.{count_words}
use Rattle.state_array.specs.Put.{words_put}
use Rattle.state_array.proofs.Put.{data_put}
use Rattle.state_array.proofs.put_fields.Goals as goal

pub returns : goal.returns
returns c =
    let a = c.args in
    let d = a.body in
    c.put_words-4.ensures
    ∙ ap (words_put FLOATS a.i d.floats) (c.put_words-3.ensures
    ∙ ap (words_put LABEL a.i d.label) (c.put_words-2.ensures
    ∙ ap (words_put CHILD_COUNT a.i (count_words d)) c.put_words.ensures))
    ∙ data_put a.i d _ (omega arith)
