-- `pass::claimer` meets its contract: none of the nodes passed claims the tree. Assumes nothing.
use mathlib.Core.Bool.{false}
use mathlib.Core.Path.{◌≡◌}
use Prim.Native.Nat.{ℕ, ◌<◌}
use Rattle.record.specs.Parse.{batch_of}
use Rattle.calls.specs.Steps.{is_taken}
use Rattle.calls.proofs.pass.claimer.Given as goal

abbrev pub invariant-loop-i : goal.invariant-loop-i
invariant-loop-i l = (m : ℕ) → m < l.i → is_taken (batch_of l.batch) l.notes l.done l.t m ≡ false
