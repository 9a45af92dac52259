-- `reasons_shape::trees::graft_twice` meets its contract: no tree that a node passed grafts is grafted later. Assumes nothing.
use Rattle.reasons_shape.proofs.TreeRules.{regrafting_plain, regrafting_alone, regrafting_fails, regrafting_end}
use borrow.Author.Rules.{rules}
use mathlib.Core.Path.{refl}
use Rattle.reasons_shape.proofs.trees.graft_twice.Goals as goal

pub loop-i-preserved-then-not-is_graft : goal.loop-i-preserved-then-not-is_graft
loop-i-preserved-then-not-is_graft c = search (rules, regrafting_plain)

pub loop-i-preserved : goal.loop-i-preserved
loop-i-preserved c = search (rules, regrafting_alone)

pub returns-in-loop-i : goal.returns-in-loop-i
returns-in-loop-i c =
    regrafting_fails c.loop-i.invariant
    c.slots-n.ensures
    c.loop-i-test.true
    c.shape_at-d.ensures c.is_graft.ensures
    c.if-not-is_graft.false _ c.later_graft.ensures c.in-Some.is c.id_found.ensures refl refl

pub returns : goal.returns
returns c = search (rules, regrafting_end)
