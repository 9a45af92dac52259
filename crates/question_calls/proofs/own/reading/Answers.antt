-- `own::reading` meets its contract: each part is its helper's. Assumes nothing.
use native.Mathlib.Omega.{arith}
use Rattle.state_array.specs.View.{id_in}
use Rattle.question_calls.proofs.own.Fields.{role_small, read_is}
use Rattle.question_calls.proofs.own.reading.Goals as goal

pub overflow_cast-result : goal.overflow_cast-result
overflow_cast-result c =
    let a = c.args in
    omega (arith, c.role_at.ensures, role_small a.state.now a.i (id_in a.state.now a.i) c.requires)

pub returns : goal.returns
returns c =
    let a = c.args in
    let at = c.requires in
    read_is a.state.now a.i _ _ _ _ _ _ _ _ _ _ _ c.word_at-flags.ensures c.role_at.ensures c.flag.ensures c.flag-2.ensures c.label_len.ensures
    (c.child_count.ensures at.is_sound at.within) c.bounds.ensures c.transform.ensures c.active_descendant.ensures c.graft.ensures
