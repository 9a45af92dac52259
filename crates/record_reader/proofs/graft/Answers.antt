-- `record_reader::graft` meets its contract: the record's two numbers are the listed node's. Assumes nothing.
use mathlib.Core.Path.{refl, ◌∙◌}
use Rattle.record_reader.proofs.Reader.{field_is}
use Rattle.record_reader.proofs.graft.Goals as goal

pub returns : goal.returns
returns c =
    let p = c.word.ensures ∙ field_is _ _ 8 16 (λ n. n) (λ l. l.body.graft.high) refl refl in
    let q = c.word-2.ensures ∙ field_is _ _ 8 24 (λ n. n) (λ l. l.body.graft.low) refl refl in
    λ j. record { high = p j; low = q j }
