-- `lists::siblings_run` meets its contract: without a link there is no sibling; else they stand beside the node's place. Assumes nothing.
use mathlib.Core.Path.{refl, sym, ap}
use native.Mathlib.Omega.{arith}
use Rattle.questions.specs.declared.Side.{Side}
use Rattle.questions.specs.Ahead.{count_beside}
use Rattle.question_calls.proofs.lists.Lists.{run_none, run_parent, run_within, run_counted}
use Rattle.question_calls.proofs.lists.siblings_run.Goals as goal

pub returns-then-link-eq0 : goal.returns-then-link-eq0
returns-then-link-eq0 c =
    let a = c.args in
    run_none a.state.now c.requires.sound a.i c.requires.i_bound a.side _ c.link_at-link.ensures _ c.if-link-eq0.true refl

-- the node's place is one among the parent's children
pub overflow_sub-result : goal.overflow_sub-result
overflow_sub-result c =
    let a = c.args in
    let sound = c.requires.sound in
    let up = c.parent_slot-parent.ensures sound c.requires.i_bound in
    let there = run_parent a.state.now sound a.i c.requires.i_bound a.side _ c.link_at-link.ensures c.if-link-eq0.false _ up in
    omega (arith, run_within a.state.now sound a.i c.requires.i_bound a.side _ c.link_at-link.ensures c.if-link-eq0.false _ up (c.child_count-children.ensures sound there))

pub overflow_sub-result-in-Following : goal.overflow_sub-result-in-Following
overflow_sub-result-in-Following c =
    let a = c.args in
    let sound = c.requires.sound in
    let up = c.parent_slot-parent.ensures sound c.requires.i_bound in
    let there = run_parent a.state.now sound a.i c.requires.i_bound a.side _ c.link_at-link.ensures c.if-link-eq0.false _ up in
    omega (arith, run_within a.state.now sound a.i c.requires.i_bound a.side _ c.link_at-link.ensures c.if-link-eq0.false _ up (c.child_count-children.ensures sound there))

pub returns-in-Following : goal.returns-in-Following
returns-in-Following c =
    let a = c.args in
    let sound = c.requires.sound in
    let up = c.parent_slot-parent.ensures sound c.requires.i_bound in
    let there = run_parent a.state.now sound a.i c.requires.i_bound a.side _ c.link_at-link.ensures c.if-link-eq0.false _ up in
    run_counted a.state.now sound a.i c.requires.i_bound a.side _ c.link_at-link.ensures c.if-link-eq0.false _ up (c.child_count-children.ensures sound there)
    (ap (λ (side : Side). count_beside side c.link_at-link.result.index c.child_count-children.result) (sym c.in-Following.is))

pub returns-in-Preceding : goal.returns-in-Preceding
returns-in-Preceding c =
    let a = c.args in
    let sound = c.requires.sound in
    let up = c.parent_slot-parent.ensures sound c.requires.i_bound in
    let there = run_parent a.state.now sound a.i c.requires.i_bound a.side _ c.link_at-link.ensures c.if-link-eq0.false _ up in
    run_counted a.state.now sound a.i c.requires.i_bound a.side _ c.link_at-link.ensures c.if-link-eq0.false _ up (c.child_count-children.ensures sound there)
    (ap (λ (side : Side). count_beside side c.link_at-link.result.index c.child_count-children.result) (sym c.in-Preceding.is))
