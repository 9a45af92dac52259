-- `walk::step` meets its contract: refused, at the end, or the next sibling. Assumes nothing.
use mathlib.Core.Path.{sym, ◌∙◌}
use Rattle.state_array.specs.View.{view}
use Rattle.question_calls.proofs.walk.Steps.{walk_few, step_refused, step_end, step_found, step_room, finds_asked}
use Rattle.question_calls.proofs.walk.step.Goals as goal

pub returns-in-Err : goal.returns-in-Err
returns-in-Err c = c.hand_out.ensures ∙ step_refused (view c.args.state.now) c.args.walk _ c.in-Err.ensures.number_is

pub sibling_at-found-requires : goal.sibling_at-found-requires
sibling_at-found-requires c =
    let q = c.in-Ok.ensures in record { sound = q.stands.is_sound; i_bound = q.stands.within; ours = q.ours }

pub returns-in-None : goal.returns-in-None
returns-in-None c =
    let a = c.args in
    let q = c.in-Ok.ensures in
    let place = finds_asked _ _ a.walk _ q.stands.id_is c.sibling_at-found.ensures in
    c.hand_out-in-None.ensures ∙ step_end (view a.state.now) a.walk (sym q.number_is) _ place c.in-None.is

pub returns-in-Some : goal.returns-in-Some
returns-in-Some c =
    let a = c.args in
    let q = c.in-Ok.ensures in
    let place = finds_asked _ _ a.walk _ q.stands.id_is c.sibling_at-found.ensures in
    let few = walk_few a.state.now q.stands.is_sound _ q.stands.within a.walk (sym q.stands.id_is) in
    let room = step_room (view a.state.now) a.walk (sym q.number_is) _ place _ few c.in-Some.is in
    c.hand_out-in-Some.ensures ∙ step_found (view a.state.now) a.walk (sym q.number_is) _ place _ _ c.in-Some.is (c.one_more-further.ensures room)
