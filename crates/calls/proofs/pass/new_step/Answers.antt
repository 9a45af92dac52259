-- `pass::new_step` meets its contract: a law for each way out. Assumes nothing.
use native.Mathlib.Omega.{arith}
use Rattle.calls.proofs.pass.Steps.{entry_limit, moves_waiting, moves_later, moves_other}
use Rattle.calls.proofs.pass.new_step.Goals as goal

pub overflow_add-p : goal.overflow_add-p
overflow_add-p c = omega (arith, entry_limit)

pub offset_bounds-firsts-j : goal.offset_bounds-firsts-j
offset_bounds-firsts-j c = omega (arith, entry_limit)

pub bounds-firsts-j : goal.bounds-firsts-j
bounds-firsts-j c = omega (arith, entry_limit)

pub returns-then-p-i : goal.returns-then-p-i
returns-then-p-i c = search moves_waiting

pub returns-then-p-lt-NONE : goal.returns-then-p-lt-NONE
returns-then-p-lt-NONE c = search moves_later

pub overflow_add-x : goal.overflow_add-x
overflow_add-x c = omega (arith, entry_limit)

pub offset_bounds-notes-j : goal.offset_bounds-notes-j
offset_bounds-notes-j c = omega (arith, entry_limit)

pub bounds-notes-j : goal.bounds-notes-j
bounds-notes-j c = omega (arith, entry_limit)

pub position_in-requires : goal.position_in-requires
position_in-requires c = omega (arith, entry_limit)

pub returns : goal.returns
returns c = search moves_other
