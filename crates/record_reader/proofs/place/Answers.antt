-- `record_reader::place` meets its contract: the number within the record where there is one, 0 past the last node. Assumes nothing.
use mathlib.Core.Path.{sym, ◌∙◌}
use native.Mathlib.Omega.{arith}
use Rattle.base.proofs.Bytes.{le_past}
use Rattle.record_reader.proofs.Reader.{field_here, field_past}
use Rattle.record_reader.proofs.place.Goals as goal

pub returns-then-u16_at-i : goal.returns-then-u16_at-i
returns-then-u16_at-i c w = le_past _ _ w (omega arith) ∙ sym (field_past _ _ w _ c.u16_at.ensures c.if-u16_at-i.true)

pub returns : goal.returns
returns c w = sym (field_here _ _ w _ c.u16_at.ensures c.if-u16_at-i.false)
