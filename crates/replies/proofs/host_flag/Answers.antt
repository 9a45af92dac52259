-- `replies::host_flag` meets its contract. Assumes nothing.
use borrow.Author.Tests.{eq-eqb, ne_eqb}
use Rattle.replies.proofs.host_flag.Goals as goal

pub returns-then-host_focused-eq0 : goal.returns-then-host_focused-eq0
returns-then-host_focused-eq0 c = rw (eq-eqb _ 0 c.if-host_focused-eq0.true)

pub returns-else-host_focused-eq0 : goal.returns-else-host_focused-eq0
returns-else-host_focused-eq0 c = rw (ne_eqb _ 0 c.if-host_focused-eq0.false)
