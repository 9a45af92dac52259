-- `lists::sibling_at` meets its contract: the child at the sibling's place. Assumes nothing.
use mathlib.Core.Path.{refl}
use native.Mathlib.Omega.{arith}
use Rattle.question_calls.proofs.lists.Lists.{run_room, run_at}
use Rattle.question_calls.proofs.lists.sibling_at.Goals as goal

pub overflow_add-run : goal.overflow_add-run
overflow_add-run c =
    let w = rw c.in-Following.is at (run_room c.args.state.now c.args.side c.args.run c.args.k c.requires.in_run c.requires.sound) in
    omega (arith, w)

pub overflow_add-run-in-Following : goal.overflow_add-run-in-Following
overflow_add-run-in-Following c =
    let w = rw c.in-Following.is at (run_room c.args.state.now c.args.side c.args.run c.args.k c.requires.in_run c.requires.sound) in
    omega (arith, w)

pub overflow_sub-run : goal.overflow_sub-run
overflow_sub-run c = let w = rw c.in-Preceding.is at c.requires.in_run.within in omega (arith, w)

pub overflow_sub-run-in-Preceding : goal.overflow_sub-run-in-Preceding
overflow_sub-run-in-Preceding c = let w = rw c.in-Preceding.is at c.requires.in_run.within in omega (arith, w)

pub returns-in-Following : goal.returns-in-Following
returns-in-Following c =
    run_at c.args.state.now c.args.side c.args.run c.args.k c.requires.in_run _ _ (rw c.in-Following.is refl) (c.child_id.ensures c.requires.sound c.requires.in_run.parent)

pub returns-in-Preceding : goal.returns-in-Preceding
returns-in-Preceding c =
    run_at c.args.state.now c.args.side c.args.run c.args.k c.requires.in_run _ _ (rw c.in-Preceding.is refl) (c.child_id-in-Preceding.ensures c.requires.sound c.requires.in_run.parent)
