-- `notes::holder_of` meets its contract: no slot passed grafts the tree. Assumes nothing.
use mathlib.Core.Bool.{false}
use mathlib.Core.Path.{◌≡◌}
use Prim.Native.Nat.{ℕ, ◌<◌}
use Rattle.std.specs.Prelude.{Some}
use Rattle.base.specs.Tests.{same_option}
use Rattle.ids.specs.Ids.{same_tree}
use Rattle.state_array.specs.View.{graft_in}
use Rattle.calls.proofs.notes.holder_of.Given as goal

abbrev pub invariant-loop-i : goal.invariant-loop-i
invariant-loop-i l = (m : ℕ) → m < l.i → same_option same_tree (graft_in l.state m) (Some l.t) ≡ false
