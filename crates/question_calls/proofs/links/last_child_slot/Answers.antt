-- `links::last_child_slot` meets its contract: no child, and the last. Assumes nothing.
use Prim.Native.Nat.{◌+◌, ◌-◌}
use mathlib.Core.Path.{◌≡◌}
use native.Mathlib.Omega.{arith}
use Rattle.question_calls.proofs.links.Siblings.{last_past, last_kid}
use Rattle.question_calls.proofs.links.last_child_slot.Goals as goal

pub returns-then-count-eq0 : goal.returns-then-count-eq0
returns-then-count-eq0 c = λ sound there.
    last_past _ sound _ there _ (c.child_count-count.ensures sound there) _ c.if-count-eq0.true c.slots.ensures

pub returns : goal.returns
returns c = λ sound there.
    let count = c.child_count-count.result in
    let one_less : count ≡ count - 1 + 1 = omega arith in
    last_kid _ sound _ there _ (c.child_count-count.ensures sound there) _ _ _ one_less
    (c.child_id.ensures sound there) c.slot_near.ensures
