-- `update_focus::write_way` meets its contract: the first j words are stored. Assumes nothing.
use native.Mathlib.Omega.{arith}
use Rattle.base.proofs.Loops.{filling_begins}
use borrow.Author.Rules.{rules}
use Rattle.update_focus.proofs.Ways.{words_go, words_are}
use Rattle.update_focus.proofs.write_way.Goals as goal

pub loop-j-init : goal.loop-j-init
loop-j-init c = filling_begins (omega arith)

pub loop-j-preserved : goal.loop-j-preserved
loop-j-preserved c = search (rules, words_go)

pub returns : goal.returns
returns c = search (rules, words_are)
