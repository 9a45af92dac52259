-- `record_reader::transform` meets its contract: each f64 of the record is the listed node's. Assumes nothing.
use mathlib.Core.Path.{refl}
use Rattle.record_reader.proofs.Reader.{float_is}
use Rattle.record_reader.proofs.transform.Goals as goal

pub returns : goal.returns
returns c = λ j. record {
  a = float_is _ _ 80 (λ l. l.body.transform.a) c.word.ensures
      c.f64_of.ensures refl refl j;
  b = float_is _ _ 88 (λ l. l.body.transform.b) c.word-2.ensures
      c.f64_of-2.ensures refl refl j;
  c = float_is _ _ 96 (λ l. l.body.transform.c) c.word-3.ensures
      c.f64_of-3.ensures refl refl j;
  d = float_is _ _ 104 (λ l. l.body.transform.d) c.word-4.ensures
      c.f64_of-4.ensures refl refl j;
  e = float_is _ _ 112 (λ l. l.body.transform.e) c.word-5.ensures c.f64_of-5.ensures refl refl j;
  f = float_is _ _ 120 (λ l. l.body.transform.f) c.word-6.ensures c.f64_of-6.ensures refl refl j;
}
