-- `record_wire::f64_of` meets its contract: above the infinity's pattern stand NaN's, and 0 / 0 is NaN; `from_bits` is defined at the others.
-- Assumes nothing.
use mathlib.Core.Path.{sym}
use lib.Ieee.{binary64, of_bits, div}
use Rattle.base.proofs.Floats.{bits_nan, bits_defined}
use borrow.Author.Rules.{rules}
use Rattle.record_wire.proofs.f64_of.Goals as goal

pub float_from_bits-result : goal.float_from_bits-result
unfolding of_bits div
float_from_bits-result c = bits_defined binary64 c.args.bits c.if-bits-gt9218868437227405312.false

pub returns-then-bits-gt9218868437227405312 : goal.returns-then-bits-gt9218868437227405312
unfolding of_bits div
returns-then-bits-gt9218868437227405312 c = sym (bits_nan binary64 c.args.bits c.if-bits-gt9218868437227405312.true)

pub returns-else-bits-gt9218868437227405312 : goal.returns-else-bits-gt9218868437227405312
unfolding of_bits div
returns-else-bits-gt9218868437227405312 c = search rules
