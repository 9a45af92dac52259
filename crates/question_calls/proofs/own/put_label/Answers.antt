-- `own::put_label` meets its contract: the bytes passed are written. Assumes nothing.
use mathlib.Core.Path.{◌≡◌, sym, ap, ◌∙◌}
use Prim.Native.Nat.{ℕ}
use native.Mathlib.Omega.{arith}
use Rattle.base.specs.Bytes.{list_of}
use Rattle.state_array.specs.Layout.{word, LABEL_LENGTH}
use Rattle.state_array.specs.View.{label_byte, label_in}
use Rattle.questions.specs.Answers.{written}
use Rattle.questions.proofs.Answers.{written_none, written_more}
use Rattle.question_calls.proofs.own.Fields.{label_long}
use Rattle.question_calls.proofs.own.put_label.Goals as goal

pub loop-j-init : goal.loop-j-init
loop-j-init c = sym (written_none (label_byte c.args.state.now c.args.i) c.args.out.now)

pub loop-j-preserved : goal.loop-j-preserved
loop-j-preserved c =
    let a = c.args in
    rw (c.loop-j.invariant, c.label_byte.ensures) (written_more (label_byte a.state.now a.i) a.out.now c.loop-j.j (omega arith))

pub returns : goal.returns
unfolding label_in
returns c =
    let a = c.args in
    let done : c.loop-j.j ≡ word a.state.now LABEL_LENGTH a.i = omega (arith, label_long a.state.now a.i) in
    c.loop-j.invariant ∙ ap (λ (n : ℕ). written (list_of n (label_byte a.state.now a.i)) a.out.now) done
