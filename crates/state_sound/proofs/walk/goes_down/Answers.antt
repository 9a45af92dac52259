-- `state_sound::walk::goes_down` meets its contract: the laws of `Going`, one for each way on and out. Assumes nothing.
use mathlib.Core.Path.{refl}
use native.Mathlib.Omega.{arith}
use borrow.Author.Rules.{rules}
use Rattle.state_sound.proofs.Walks.{some_room, next_small, going_start, going_end, going_back, going_stopped, going_on}
use Rattle.state_sound.proofs.walk.goes_down.Goals as goal

pub loop-depth-init : goal.loop-depth-init
loop-depth-init c = (refl, search (rules, going_start))

pub loop-depth-preserved-in_default : goal.loop-depth-preserved-in_default
loop-depth-preserved-in_default c = (search rules, search (rules, going_back))

pub returns-then-n-near : goal.returns-then-n-near
returns-then-n-near c = search (rules, going_stopped)

pub overflow_sub-left-in-loop-depth : goal.overflow_sub-left-in-loop-depth
overflow_sub-left-in-loop-depth c = omega (arith, some_room)

pub overflow_add-nexts : goal.overflow_add-nexts
overflow_add-nexts c = omega (arith, next_small c.loop-depth.invariant.1 c.loop-depth-test.true)

pub bounds-nexts-top-in-loop-depth : goal.bounds-nexts-top-in-loop-depth
bounds-nexts-top-in-loop-depth c = omega (arith, some_room)

pub offset_bounds-path-depth : goal.offset_bounds-path-depth
offset_bounds-path-depth c = omega (arith, some_room)

pub bounds-path-depth : goal.bounds-path-depth
bounds-path-depth c = omega (arith, some_room)

pub offset_bounds-nexts-depth : goal.offset_bounds-nexts-depth
offset_bounds-nexts-depth c = omega (arith, some_room)

pub bounds-nexts-depth : goal.bounds-nexts-depth
bounds-nexts-depth c = omega (arith, some_room)

pub overflow_add-depth : goal.overflow_add-depth
overflow_add-depth c = omega (arith, some_room)

pub loop-depth-smaller : goal.loop-depth-smaller
loop-depth-smaller c = omega (arith, some_room)

pub loop-depth-preserved : goal.loop-depth-preserved
loop-depth-preserved c = (
  search rules,
  going_on c.loop-depth.invariant.1 c.loop-depth-test.true c.kid_at.ensures c.in-Some.is c.met_at-near.ensures
      c.if-n-near.false,
)

pub returns : goal.returns
returns c = search (rules, going_end)
