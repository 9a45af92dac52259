-- `update_focus::way::word_at` meets its contract: a law for each way out. Assumes nothing.
use borrow.Author.Rules.{rules}
use Rattle.update_focus.proofs.Ways.{word_none, word_tree, word_node}
use Rattle.update_focus.proofs.way.word_at.Goals as goal

pub returns-in_default : goal.returns-in_default
returns-in_default c = search (rules, word_none)

pub returns-then-j-eq0 : goal.returns-then-j-eq0
returns-then-j-eq0 c = search (rules, word_tree)

pub returns-else-j-eq0 : goal.returns-else-j-eq0
returns-else-j-eq0 c = search (rules, word_node)
