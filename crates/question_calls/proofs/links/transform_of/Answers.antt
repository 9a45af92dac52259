-- `links::transform_of` meets its contract: what is left to climb from here makes the whole. Assumes nothing.
use mathlib.Core.Path.{refl, sym, ◌∙◌}
use Prim.Native.Nat.{◌<◌}
use native.Mathlib.Omega.{arith}
use Rattle.base.proofs.Cases.{by_order}
use Rattle.state_array.specs.View.{slots_of}
use Rattle.questions.specs.Boxes.{transform}
use Rattle.question_calls.proofs.links.Up.{few_ancestors, fewer, chain_past, chain_above, chain_on}
use Rattle.question_calls.proofs.links.transform_of.Goals as goal

pub loop-init : goal.loop-init
unfolding transform
loop-init c = λ sound there. (
  chain_above _ _ sound _ _ there (c.parent_slot-p.ensures sound there) ∙ rw (c.direct_transform-whole.ensures sound there) refl,
  λ l. few_ancestors _ sound _ l,
)

pub returns-then-n-p : goal.returns-then-n-p
returns-then-n-p c = λ sound there. sym (chain_past _ _ c.loop.p (omega arith)) ∙ (c.loop.invariant sound there).0

pub loop-preserved : goal.loop-preserved
loop-preserved c = λ sound there.
    let kept = c.loop.invariant sound there in
    let p : c.loop.p < slots_of c.args.state.now = omega arith in
    let up = c.parent_slot-p-in-loop.ensures sound p in (
      rw (c.product-whole.ensures, c.direct_transform.ensures sound p) (chain_on _ sound _ _ _ p up) ∙ kept.0,
      λ q. omega (arith, fewer _ sound _ p _ up _ q (kept.1 p)),
    )

pub returns-after-loop : goal.returns-after-loop
returns-after-loop c = λ sound there.
    let kept = c.loop.invariant sound there in
    by_order c.loop.p (slots_of c.args.state.now) (λ p. absurd (omega (arith, kept.1 p))) (λ p. sym (chain_past _ _ c.loop.p p) ∙ kept.0)
