-- `links::child_count` meets its contract: the row's count, and a graft's one child or none. Assumes nothing.
use Rattle.base.proofs.Tests.{call_true, call_false}
use Rattle.question_calls.proofs.links.Links.{count_plain, count_root, count_lost}
use Rattle.question_calls.proofs.links.child_count.Goals as goal

pub returns-then-not-is_graft : goal.returns-then-not-is_graft
returns-then-not-is_graft c = λ sound there.
    count_plain _ sound _ there _ c.shape_at-shape.ensures (call_false c.is_graft.ensures c.if-not-is_graft.true)

pub returns-in-Some : goal.returns-in-Some
returns-in-Some c = λ sound there.
    count_root _ sound _ there _ c.shape_at-shape.ensures (call_true c.is_graft.ensures c.if-not-is_graft.false) _
    c.tree_of.ensures _ c.in-Some.is

pub returns-in-None : goal.returns-in-None
returns-in-None c = λ sound there.
    count_lost _ sound _ there _ c.shape_at-shape.ensures (call_true c.is_graft.ensures c.if-not-is_graft.false) _
    c.tree_of.ensures c.in-None.is
