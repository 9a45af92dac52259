-- `state_rules::kid_at` meets its contract: a law for each way out. Assumes nothing.
use borrow.Author.Rules.{rules}
use Rattle.state_rules.proofs.Kids.{kid_past, kid_unborn, kid_root, kid_end, kid_child}
use Rattle.state_rules.proofs.kid_at.Goals as goal

pub returns-then-d-j : goal.returns-then-d-j
returns-then-d-j c = search (rules, kid_end)

pub returns-then-not-is_graft : goal.returns-then-not-is_graft
returns-then-not-is_graft c = search (rules, kid_child)

pub returns-then-j-gt0 : goal.returns-then-j-gt0
returns-then-j-gt0 c = search (rules, kid_past)

pub returns-in_err-e : goal.returns-in_err-e
returns-in_err-e c = search (rules, kid_unborn)

pub returns : goal.returns
returns c = search (rules, kid_root)
