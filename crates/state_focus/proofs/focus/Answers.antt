-- `state_focus::focus` meets its contract: a law for each way out. Assumes nothing.
use borrow.Author.Rules.{rules}
use Rattle.state_focus.proofs.Way.{unfocused, focus_none, focus_some}
use Rattle.state_focus.proofs.focus.Goals as goal

pub returns-then-host-eq0 : goal.returns-then-host-eq0
returns-then-host-eq0 c = search (rules, unfocused)

pub returns-in_err-x : goal.returns-in_err-x
returns-in_err-x c = search (rules, focus_none)

pub returns : goal.returns
returns c = focus_some _ c.host.ensures c.effective_focus.ensures c.if-host-eq0.false c.in_ok-x.was c.or_active_descendant.ensures
