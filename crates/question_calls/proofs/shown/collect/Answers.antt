-- `shown::collect` meets its contract: what is listed from here on is what is left of the list. The measure is how long it is. Assumes
-- nothing.
use mathlib.Core.Path.{refl, ap, ◌∙◌}
use Prim.Native.Nat.{ℕ}
use native.Mathlib.Numerals.{add-one}
use native.Mathlib.Omega.{arith}
use lib.ListN.{length, drop, length-drop}
use Rattle.questions.specs.Filters.{filter_of}
use Rattle.questions.proofs.Places.{at_some}
use Rattle.question_calls.proofs.lists.Lists.{collected_none, collected_length, collected_room, collected_more, collected_all}
use Rattle.question_calls.proofs.shown.Shown.{listed_nil, listed_open, listed_cons, list_few}
use Rattle.question_calls.proofs.shown.collect.Invariants.{list}
use Rattle.question_calls.proofs.shown.collect.Goals as goal

pub loop-filter-init : goal.loop-filter-init
loop-filter-init c =
    let a = c.args in
    (c.slots-n.ensures, collected_none (list a.state.now a.focused a.filter a.side a.start) a.ids.now, refl)

pub shape_of-ids-then-n-i : goal.shape_of-ids-then-n-i
shape_of-ids-then-n-i c =
    let l = c.loop-filter in
    let a = c.args in
    let few = list_few _ _ c.requires.sound (filter_of _ _) a.start in
    collected_length (list a.state.now a.focused a.filter a.side a.start) a.ids.now few (omega (arith, few, c.requires.in_bounds))
    l.k l.ids l.invariant.1

pub returns-then-n-i : goal.returns-then-n-i
returns-then-n-i c =
    let l = c.loop-filter in
    let a = c.args in
    let few = list_few _ _ c.requires.sound (filter_of _ _) a.start in
    let all = list a.state.now a.focused a.filter a.side a.start in
    let done = ap length (l.invariant.2 ∙ listed_nil _ _ c.requires.sound (filter_of _ _) l.here (rw l.invariant.0 at c.if-n-i.true)) in
    collected_all all a.ids.now few (omega (arith, few, c.requires.in_bounds)) l.k l.ids l.invariant.1
    (omega (arith, done, length-drop l.k all))

pub store-requires : goal.store-requires
store-requires c =
    let l = c.loop-filter in
    let a = c.args in
    let few = list_few _ _ c.requires.sound (filter_of _ _) a.start in
    let all = list a.state.now a.focused a.filter a.side a.start in
    let there = rw l.invariant.0 at c.if-n-i.false in
    collected_room all a.ids.now few (omega (arith, few, c.requires.in_bounds)) l.k l.ids l.invariant.1 _
    (at_some all l.k _ _ (l.invariant.2 ∙ listed_open _ _ c.requires.sound (filter_of _ _) l.here there)).0

pub overflow_add-k : goal.overflow_add-k
overflow_add-k c = let l = c.loop-filter in omega (arith, l.invariant.1.few)

pub loop-filter-smaller : goal.loop-filter-smaller
loop-filter-smaller c =
    let l = c.loop-filter in
    let there = rw l.invariant.0 at c.if-n-i.false in
    omega (arith, ap length (listed_cons _ _ c.requires.sound (filter_of _ _) l.here _ there (c.shown_after-here.ensures c.requires.sound there)))

pub loop-filter-preserved : goal.loop-filter-preserved
loop-filter-preserved c =
    let l = c.loop-filter in
    let a = c.args in
    let few = list_few _ _ c.requires.sound (filter_of _ _) a.start in
    let all = list a.state.now a.focused a.filter a.side a.start in
    let there = rw l.invariant.0 at c.if-n-i.false in
    let next = listed_cons _ _ c.requires.sound (filter_of _ _) l.here _ there (c.shown_after-here.ensures c.requires.sound there) in
    let at = at_some all l.k _ _ (l.invariant.2 ∙ next) in (
      l.invariant.0,
      rw (c.store.ensures, c.id_at.ensures)
          (collected_more all a.ids.now few (omega (arith, few, c.requires.in_bounds)) l.k l.ids l.invariant.1 _ at.0),
      ap (λ (k : ℕ). drop k all) (add-one l.k) ∙ at.1,
    )
