-- `plain::focused_slot` meets its contract: a law for each way out. Assumes nothing.
use native.Mathlib.Omega.{arith}
use borrow.Author.Rules.{rules}
use Rattle.question_calls.proofs.plain.Focus.{host_lost, focus_none, focus_own, focus_self, focus_other}
use Rattle.question_calls.proofs.plain.focused_slot.Goals as goal

pub returns-then-host-eq0 : goal.returns-then-host-eq0
returns-then-host-eq0 c = λ sound. host_lost _ _ c.slots-n.ensures (rw c.host.ensures at c.if-host-eq0.true)

pub enum_told-1 : goal.enum_told-1
enum_told-1 c = search rules

pub returns-in_default : goal.returns-in_default
returns-in_default c = λ sound.
    focus_none _ _ c.slots-n.ensures (rw c.host.ensures at c.if-host-eq0.false) _ c.effective_focus.ensures
    c.in_default.is

pub returns-then-n-a : goal.returns-then-n-a
returns-then-n-a c = λ sound.
    let n = c.slots-n.ensures in
    focus_own _ _ n (rw c.host.ensures at c.if-host-eq0.false) _ c.effective_focus.ensures sound _
    c.in-Some.is _ c.slot_of-i.ensures _ (λ l. c.active_descendant_slot-a.ensures sound l)
    (rw n at c.if-n-a.true)

pub returns-then-a-i : goal.returns-then-a-i
returns-then-a-i c = λ sound.
    let n = c.slots-n.ensures in
    focus_self _ _ n (rw c.host.ensures at c.if-host-eq0.false) _ c.effective_focus.ensures sound _
    c.in-Some.is _ c.slot_of-i.ensures _ (λ l. c.active_descendant_slot-a.ensures sound l)
    (omega (arith, n)) c.if-a-i.true

pub returns : goal.returns
returns c = λ sound.
    let n = c.slots-n.ensures in
    focus_other _ _ n (rw c.host.ensures at c.if-host-eq0.false) _ c.effective_focus.ensures sound _
    c.in-Some.is _ c.slot_of-i.ensures _ (λ l. c.active_descendant_slot-a.ensures sound l)
    (omega (arith, n)) c.if-a-i.false
