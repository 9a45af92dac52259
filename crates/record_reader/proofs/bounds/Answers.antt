-- `record_reader::bounds` meets its contract: each f64 of the record is the listed node's. Assumes nothing.
use mathlib.Core.Path.{refl}
use Rattle.record_reader.proofs.Reader.{float_is}
use Rattle.record_reader.proofs.bounds.Goals as goal

pub returns : goal.returns
returns c = λ j. record {
  x0 = float_is _ _ 48 (λ l. l.body.bounds.x0) c.word.ensures
      c.f64_of.ensures refl refl j;
  y0 = float_is _ _ 56 (λ l. l.body.bounds.y0) c.word-2.ensures
      c.f64_of-2.ensures refl refl j;
  x1 = float_is _ _ 64 (λ l. l.body.bounds.x1) c.word-3.ensures c.f64_of-3.ensures refl refl j;
  y1 = float_is _ _ 72 (λ l. l.body.bounds.y1) c.word-4.ensures c.f64_of-4.ensures refl refl j;
}
