-- `own::put_children` meets its contract: the ids passed are written. Assumes nothing.
use mathlib.Core.Path.{sym}
use Prim.Native.Nat.{◌<◌}
use native.Mathlib.Omega.{arith}
use lib.ListN.{length}
use Rattle.state_array.specs.View.{id_in, view}
use Rattle.questions.specs.Links.{child_ids}
use Rattle.questions.proofs.Answers.{ids_none, ids_more}
use Rattle.question_calls.proofs.own.put_children.Goals as goal

pub loop-k-init : goal.loop-k-init
loop-k-init c =
    let a = c.args in sym (ids_none (child_ids (view a.state.now).forest (id_in a.state.now a.i)) a.out.now)

pub loop-k-preserved : goal.loop-k-preserved
loop-k-preserved c =
    let a = c.args in
    let at = c.requires.node_at in
    let k = c.loop-k.k in
    let below : k < length (child_ids (view a.state.now).forest (id_in a.state.now a.i)) = omega arith in
    rw c.loop-k.invariant (ids_more _ a.out.now k c.child_id-x.result _ below (omega arith) (c.child_id-x.ensures at.is_sound at.within below))
