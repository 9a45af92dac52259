-- `rows::first_clash` meets its contract: none of the nodes passed differs and goes. Assumes nothing.
use mathlib.Core.Bool.{false}
use mathlib.Core.Path.{◌≡◌}
use Prim.Native.Nat.{ℕ, ◌<◌}
use Rattle.calls.specs.Noted.{clash_noted}
use Rattle.calls.proofs.rows.first_clash.Given as goal

abbrev pub invariant-loop-i : goal.invariant-loop-i
invariant-loop-i l = (m : ℕ) → m < l.i → clash_noted l.notes m ≡ false
