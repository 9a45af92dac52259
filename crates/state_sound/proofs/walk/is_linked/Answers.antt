-- `state_sound::walk::is_linked` meets its contract: a law for each way out. Assumes nothing.
use borrow.Author.Rules.{rules}
use Rattle.state_sound.proofs.Decide.{linked_absent, linked_parented, linked_below}
use Rattle.state_sound.proofs.walk.is_linked.Goals as goal

pub returns-then-n-r : goal.returns-then-n-r
returns-then-n-r c = search (rules, linked_absent)

pub returns-then-l-ne0 : goal.returns-then-l-ne0
returns-then-l-ne0 c = search (rules, linked_parented)

pub returns : goal.returns
returns c = search (rules, linked_below)
