-- `state_array::child_at` meets its contract: past the last entry stands the own number. Assumes nothing.
use Prim.Native.Nat.{◌+◌}
use native.Mathlib.Omega.{arith}
use borrow.Author.Tests.{lt-ltb, le-ltb}
use Rattle.state_array.specs.Layout.{ENTRIES, child}
use Rattle.state_array.proofs.child_at.Goals as goal

pub returns-then-first : goal.returns-then-first
unfolding child
returns-then-first c = let a = c.args in rw (le-ltb (a.first + a.j) ENTRIES (omega arith))

pub returns-then-start-j : goal.returns-then-start-j
unfolding child
returns-then-start-j c = let a = c.args in rw (le-ltb (a.first + a.j) ENTRIES (omega arith))

pub returns : goal.returns
unfolding child
returns c = let a = c.args in rw (lt-ltb (a.first + a.j) ENTRIES (omega arith))
