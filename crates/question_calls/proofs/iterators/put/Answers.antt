-- `iterators::put` meets its contract: a copy where there is room. Assumes nothing.
use native.Mathlib.Omega.{arith}
use Rattle.question_calls.proofs.iterators.Lists.{puts_short, puts_all}
use Rattle.question_calls.proofs.iterators.put.Goals as goal

pub returns-then-out-words : goal.returns-then-out-words
returns-then-out-words c =
    let a = c.args in puts_short a.ids.now a.n c.requires a.out.now (omega arith)

pub returns : goal.returns
returns c =
    let a = c.args in
    rw c.copy_from_slice.ensures.after (puts_all a.ids.now a.n c.requires a.out.now (omega arith))
