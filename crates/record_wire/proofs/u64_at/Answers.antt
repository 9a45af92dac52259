-- `record_wire::u64_at` meets its contract: the whole number where eight bytes are there, else two halves by the law `le_add`; nothing past the end.
-- Assumes nothing.
use mathlib.Core.Path.{sym}
use Rattle.base.proofs.Bytes.{le_add, le_past}
use native.Mathlib.Omega.{arith}
use Rattle.record_wire.proofs.u64_at.Goals as goal

pub returns-then-bytes-at : goal.returns-then-bytes-at
returns-then-bytes-at c = sym (le_past _ _ 8 c.if-bytes-at.true)

pub returns : goal.returns
returns c =
    let a = c.args in
    omega (arith, le_add a.bytes.now a.at 4 4)
