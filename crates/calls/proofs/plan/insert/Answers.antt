-- `plan::insert` meets its contract: from `at` on the codes are moved up by one. Assumes nothing.
use native.Mathlib.Omega.{arith}
use Rattle.calls.proofs.plan.Codes.{shift_copied, shift_end}
use Rattle.calls.proofs.plan.insert.Goals as goal

pub returns : goal.returns
returns c =
    let moved = c.copy_within.ensures in
    shift_end _ _ c.args.count c.args.at _ (omega arith) (shift_copied _ _ _ _ moved.len (omega arith) moved.by_index.1 moved.by_index.0)
