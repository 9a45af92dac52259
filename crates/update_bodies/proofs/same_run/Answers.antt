-- `update_bodies::same_run` meets its contract: the words passed are the same. Assumes nothing.
use mathlib.Core.Path.{sym, ◌∙◌}
use native.Mathlib.Omega.{arith}
use borrow.Author.Tests.{eq-eqb, ne_eqb}
use Rattle.base.proofs.Bytes.{all_below_none, all_below_more, all_below_fails}
use Rattle.update_bodies.specs.Bodies.{same_run}
use Rattle.base.proofs.Indexed.{all_below_end}
use Rattle.update_bodies.proofs.same_run.Goals as goal

pub loop-k-init : goal.loop-k-init
loop-k-init c = all_below_none _

pub returns-then-word_in : goal.returns-then-word_in
unfolding same_run
returns-then-word_in c =
    let l = c.loop-k in
    sym (all_below_fails _ _ l.k (omega arith) (ne_eqb _ _ (λ e. c.if-word_in.true (c.word_in.ensures ∙ e ∙ sym c.word_in-in-loop-k.ensures))))

pub loop-k-preserved : goal.loop-k-preserved
loop-k-preserved c =
    let l = c.loop-k in
    all_below_more _ l.k l.invariant (eq-eqb _ _ (sym c.word_in.ensures ∙ c.if-word_in.false ∙ c.word_in-in-loop-k.ensures))

pub returns : goal.returns
returns c = unfold same_run in (sym (all_below_end _ _ _ (omega arith) c.loop-k.invariant))
