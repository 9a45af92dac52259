-- `shown::listed_at` meets its contract: the node at a place of the list is the one so much further from here. Assumes nothing.
use Rattle.std.specs.Prelude.{slice_get}
use mathlib.Core.Path.{◌≡◌, sym, ap, ◌∙◌}
use Prim.Native.Nat.{◌+◌, ◌-◌, ◌<◌}
use native.Mathlib.Omega.{arith}
use Rattle.state_array.specs.View.{slots_of}
use Rattle.questions.specs.Filters.{filter_of}
use Rattle.question_calls.specs.Plain.{listed_from}
use Rattle.question_calls.proofs.shown.Shown.{at_first, at_end, at_next}
use Rattle.question_calls.proofs.shown.listed_at.Goals as goal

pub returns-then-n-here : goal.returns-then-n-here
returns-then-n-here c =
    let l = c.loop in
    at_end _ _ c.requires.sound (filter_of _ _) l.here _ (c.args.count - l.counter) (omega arith) c.slots-n.ensures ∙ l.invariant

pub loop-preserved : goal.loop-preserved
loop-preserved c =
    let l = c.loop in
    let sound = c.requires.sound in
    let left = c.args.count - l.counter in
    let there : l.here.slot < slots_of c.args.state.now = omega arith in
    let fewer : c.args.count - (l.counter + 1) ≡ left - 1 = omega arith in
    rw fewer (at_next _ _ sound (filter_of _ _) l.here _ left there (c.shown_after-here.ensures sound there) (omega arith) ∙ l.invariant)

pub returns : goal.returns
returns c =
    let l = c.loop in
    let none_left : c.args.count - l.counter ≡ 0 = omega arith in
    let list = listed_from (filter_of _ _) _ _ l.here in
    at_first _ _ c.requires.sound (filter_of _ _) l.here ∙ sym (ap (slice_get list) none_left) ∙ l.invariant
