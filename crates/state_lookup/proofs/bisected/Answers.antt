-- `state_lookup::bisected` meets its contract: where the ids ascend, slots below `low` stand before the id, and those past what is left do not. Assumes nothing.
use borrow.Author.Rules.{rules}
use native.Mathlib.Omega.{arith}
use Rattle.state_lookup.proofs.Order.{bisect_start, bisect_low, bisect_high, slot_here, slot_none}
use Rattle.state_lookup.proofs.bisected.Goals as goal
use Rattle.state_lookup.proofs.bisected.Goals.{then-is_before, else-is_before}

pub loop-left-init : goal.loop-left-init
loop-left-init c = search (rules, bisect_start)

pub loop-left-preserved : goal.loop-left-preserved
loop-left-preserved c =
    let b = c.loop-left.invariant in
    let more = c.loop-left-test.true in
    let is = c.id_at.ensures in
    let test = c.is_before.ensures in
    elim c.if-is_before.branch [
      | then-is_before w ↦ rw w.low-is (bisect_low b more is test w.if-is_before.true)
      | else-is_before w ↦ rw w.low-is (bisect_high b more is test w.if-is_before.false)
    ]

pub returns-then-stands : goal.returns-then-stands
returns-then-stands c = search (rules, slot_here)

pub returns-then-stands-2 : goal.returns-then-stands-2
returns-then-stands-2 c = slot_here c.stands-2.ensures c.slots-n.ensures c.if-stands-2.true

pub returns : goal.returns
returns c =
    slot_none c.loop-left.invariant (λ m. absurd (omega arith)) c.stands.ensures c.if-stands.false c.stands-2.ensures c.if-stands-2.false
    c.slots-n.ensures
