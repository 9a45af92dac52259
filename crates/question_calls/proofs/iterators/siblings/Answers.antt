-- `iterators::siblings` meets its contract: refused, or what is found from the slot. Assumes nothing.
use mathlib.Core.Path.{ap, ◌∙◌}
use native.Mathlib.Omega.{arith}
use lib.ListN.{length}
use Rattle.ids.specs.Ids.{id_words}
use Rattle.ids.specs.declared.FullNodeId.{FullNodeId}
use Rattle.ids.proofs.Ids.{id_words_length}
use Rattle.state_array.specs.View.{view}
use Rattle.questions.specs.Answers.{written}
use Rattle.questions.specs.Links.{siblings}
use Rattle.node_answers.proofs.Answers.{list_exit, list_short, list_written}
use Rattle.question_calls.proofs.iterators.siblings.Goals as goal

pub returns-in_err-slot : goal.returns-in_err-slot
returns-in_err-slot c = list_exit _ _ _ _ _ _ _ c.from_residual.ensures.1 c.in_err-slot.ensures.number_is

pub siblings_run-run-requires : goal.siblings_run-run-requires
siblings_run-run-requires c = let at = c.in_ok-slot.ensures.stands in record { sound = at.is_sound; i_bound = at.within }

pub returns-then-out-n : goal.returns-then-out-n
returns-then-out-n c =
    let a = c.args in
    let q = c.in_ok-slot.ensures in
    let xs = siblings a.side (view a.state.now).forest a.id in
    let count = rw q.stands.id_is at c.siblings_run-run.ensures.count_is in
    list_short _ a.id (length xs) (id_words xs) a.out.now q.number_is (omega (arith, id_words_length xs, count, c.if-out-n.true))

pub put_siblings-requires : goal.put_siblings-requires
put_siblings-requires c = let at = c.in_ok-slot.ensures.stands in record { sound = at.is_sound; i_bound = at.within; i_in_bounds = omega (arith, c.siblings_run-run.ensures.count_is, c.if-out-n.false) }

pub returns : goal.returns
returns c =
    let a = c.args in
    let q = c.in_ok-slot.ensures in
    let xs = siblings a.side (view a.state.now).forest a.id in
    let count = rw q.stands.id_is at c.siblings_run-run.ensures.count_is in
    list_written _ a.id (length xs) (id_words xs) a.out.now q.number_is (omega (arith, id_words_length xs, count, c.if-out-n.false)) _ count
    _ (c.put_siblings.ensures ∙ ap (λ (y : FullNodeId). written (id_words (siblings a.side (view a.state.now).forest y)) a.out.now) q.stands.id_is)
