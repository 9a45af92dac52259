-- `record_wire::u8_at` meets its contract: one byte is itself, and past the end there are zeros. Assumes nothing.
use mathlib.Core.Path.{sym}
use Rattle.base.proofs.Bytes.{le_one, le_past}
use Rattle.record_wire.proofs.u8_at.Goals as goal

pub returns-then-at-bytes : goal.returns-then-at-bytes
returns-then-at-bytes c = sym (le_one _ _)

pub returns-else-at-bytes : goal.returns-else-at-bytes
returns-else-at-bytes c = sym (le_past _ _ 1 c.if-at-bytes.false)
