-- `node::label` meets its contract: refused, too short, or written. Assumes nothing.
use mathlib.Core.List.{List}
use mathlib.Core.Path.{sym, ap, ◌∙◌}
use Prim.Native.Nat.{ℕ}
use lib.ListN.{length}
use Rattle.state_array.specs.View.{view}
use Rattle.questions.specs.Answers.{written}
use Rattle.node_answers.proofs.Answers.{list_exit, list_short, list_written}
use Rattle.question_calls.proofs.own.Fields.{label_is, label_long}
use Rattle.question_calls.proofs.node.label.Goals as goal

pub returns-in_err-slot : goal.returns-in_err-slot
returns-in_err-slot c = list_exit _ _ _ _ _ _ _ c.from_residual.ensures.1 c.in_err-slot.ensures.number_is

pub returns-then-out-length : goal.returns-then-out-length
returns-then-out-length c =
    let a = c.args in
    let q = c.in_ok-slot.ensures in
    let long = ap length (label_is a.state.now a.id _ q.stands) ∙ label_long a.state.now c.in_ok-slot.slot ∙ sym c.label_len-length.ensures in
    list_short (view a.state.now).forest a.id _ _ a.out.now q.number_is (rw long c.if-out-length.true)

pub put_label-requires : goal.put_label-requires
put_label-requires c = (c.label_len-length.ensures ∙ sym (label_long c.args.state.now c.in_ok-slot.slot), c.if-out-length.false)

pub returns : goal.returns
returns c =
    let a = c.args in
    let q = c.in_ok-slot.ensures in
    let is = label_is a.state.now a.id _ q.stands in
    let long = ap length is ∙ label_long a.state.now c.in_ok-slot.slot ∙ sym c.label_len-length.ensures in
    list_written (view a.state.now).forest a.id _ _ a.out.now q.number_is (rw long c.if-out-length.false) _ (sym long)
    _ (c.put_label.ensures ∙ ap (λ (l : List ℕ). written l a.out.now) (sym is))
