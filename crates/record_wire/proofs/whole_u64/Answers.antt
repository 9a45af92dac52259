-- `record_wire::whole_u64` meets its contract: eight bytes, four by four by the law `le_add`. Assumes nothing.
use Rattle.base.proofs.Bytes.{le_add, le_four}
use Prim.Native.Nat.{◌+◌}
use native.Mathlib.Nat.{add_assoc}
use native.Mathlib.Omega.{arith}
use Rattle.record_wire.proofs.whole_u64.Goals as goal

pub returns : goal.returns
returns c =
    let s = c.args.bytes.now in
    let at = c.args.at in
    omega (arith, c.from_le_bytes.ensures, le_add s at 4 4, le_four s at, rw (add_assoc at 4 1, add_assoc at 4 2, add_assoc at 4 3) at (le_four s (at + 4)))
