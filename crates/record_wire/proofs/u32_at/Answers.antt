-- `record_wire::u32_at` meets its contract: two halves, by the law `le_add` at the widths 2 and 2; nothing past the end. Assumes nothing.
use mathlib.Core.Path.{sym}
use Rattle.base.proofs.Bytes.{le_add, le_past}
use native.Mathlib.Omega.{arith}
use Rattle.record_wire.proofs.u32_at.Goals as goal

pub returns-then-bytes-at : goal.returns-then-bytes-at
returns-then-bytes-at c = sym (le_past _ _ 4 c.if-bytes-at.true)

pub returns : goal.returns
returns c =
    let a = c.args in
    omega (arith, le_add a.bytes.now a.at 2 2)
