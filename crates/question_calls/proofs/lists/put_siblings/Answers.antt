-- `lists::put_siblings` meets its contract: the siblings passed are written. Assumes nothing.
use native.Mathlib.Omega.{arith}
use Rattle.question_calls.proofs.lists.Lists.{collected_none, collected_more}
use Rattle.question_calls.proofs.lists.put_siblings.Invariants.{aside}
use Rattle.question_calls.proofs.lists.put_siblings.Goals as goal

pub loop-k-init : goal.loop-k-init
loop-k-init c =
    let a = c.args in collected_none (aside a.state.now a.side a.i) a.out.now

pub loop-k-preserved : goal.loop-k-preserved
loop-k-preserved c =
    let a = c.args in
    let l = c.loop-k in
    let run = c.siblings_run-run.ensures in
    rw (c.store.ensures, c.sibling_at.ensures)
    (collected_more (aside a.state.now a.side a.i) a.out.now (omega (arith, run.count_is, run.few)) c.requires.i_in_bounds l.k l.out l.invariant _
    (run.each l.k c.loop-k-test.true))
