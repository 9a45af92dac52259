-- `node::children` meets its contract: refused, too short, or written. Assumes nothing.
use mathlib.Core.Path.{◌≡◌, ap, ◌∙◌}
use native.Mathlib.Omega.{arith}
use lib.ListN.{length}
use Rattle.ids.specs.Ids.{id_words}
use Rattle.ids.specs.declared.FullNodeId.{FullNodeId}
use Rattle.ids.proofs.Ids.{id_words_length}
use Rattle.state_array.specs.View.{view}
use Rattle.questions.specs.Answers.{written}
use Rattle.questions.specs.Links.{child_ids}
use Rattle.node_answers.proofs.Answers.{list_exit, list_short, list_written}
use Rattle.question_calls.proofs.node_asked.Asks.{asked_here, of_asked}
use Rattle.question_calls.proofs.node.children.Goals as goal

pub returns-in_err-slot : goal.returns-in_err-slot
returns-in_err-slot c = list_exit _ _ _ _ _ _ _ c.from_residual.ensures.1 c.in_err-slot.ensures.number_is

pub returns-then-out-length : goal.returns-then-out-length
returns-then-out-length c =
    let a = c.args in
    let q = c.in_ok-slot.ensures in
    let f = (view a.state.now).forest in
    let count = of_asked a.state.now a.id _ q.stands (λ f x. c.child_count-length.result ≡ length (child_ids f x)) c.child_count-length.ensures in
    list_short f a.id _ _ a.out.now q.number_is (omega (arith, id_words_length (child_ids f a.id), c.if-out-length.true))

pub put_children-requires : goal.put_children-requires
put_children-requires c =
    let at = c.in_ok-slot.ensures.stands in
    record { node_at = asked_here _ _ _ at; n_value = (c.child_count-length.ensures at.is_sound at.within, omega (arith, c.if-out-length.false)) }

pub returns : goal.returns
returns c =
    let a = c.args in
    let q = c.in_ok-slot.ensures in
    let f = (view a.state.now).forest in
    let count = of_asked a.state.now a.id _ q.stands (λ f x. c.child_count-length.result ≡ length (child_ids f x)) c.child_count-length.ensures in
    list_written f a.id _ _ a.out.now q.number_is (omega (arith, id_words_length (child_ids f a.id), c.if-out-length.false)) _ count
    _ (c.put_children.ensures ∙ ap (λ (y : FullNodeId). written (id_words (child_ids f y)) a.out.now) q.stands.id_is)
