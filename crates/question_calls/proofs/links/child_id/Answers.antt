-- `links::child_id` meets its contract: a child entry, the root of a grafted tree, and a graft without one. Assumes nothing.
use native.Mathlib.Omega.{arith}
use Rattle.base.proofs.Tests.{call_true, call_false}
use Rattle.question_calls.proofs.links.Links.{kid_plain, kid_root, count_lost}
use Rattle.question_calls.proofs.links.child_id.Goals as goal

pub returns-then-not-is_graft : goal.returns-then-not-is_graft
returns-then-not-is_graft c = λ sound there within.
    kid_plain _ sound _ there _ c.shape_at-shape.ensures (call_false c.is_graft.ensures c.if-not-is_graft.true) _ _ _
    c.id_at-x.ensures c.child_at-node.ensures within

pub returns-in-Some : goal.returns-in-Some
returns-in-Some c = λ sound there within.
    kid_root _ sound _ there _ c.shape_at-shape.ensures (call_true c.is_graft.ensures c.if-not-is_graft.false) _
    c.tree_of.ensures _ c.in-Some.is _ within

pub returns-in-None : goal.returns-in-None
returns-in-None c = λ sound there within.
    let count =
    count_lost _ sound _ there _ c.shape_at-shape.ensures (call_true c.is_graft.ensures c.if-not-is_graft.false) _
    c.tree_of.ensures c.in-None.is in
    absurd (omega arith)
