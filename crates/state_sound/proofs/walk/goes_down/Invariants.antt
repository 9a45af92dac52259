-- `state_sound::walk::goes_down` meets its contract: the laws of `Going`, one for each way on and out. Assumes nothing.
use mathlib.Core.Path.{◌≡◌}
use Prim.Native.Nat.{◌+◌, ◌*◌}
use lib.ListN.{length}
use Rattle.state_sound.proofs.Walks.{Going}
use Rattle.state_sound.proofs.walk.goes_down.Given as goal

abbrev pub invariant-loop-depth : goal.invariant-loop-depth
invariant-loop-depth l = (length l.parents ≡ length l.initial.parents) × Going l.state l.n l.r l.path l.nexts l.depth l.left

abbrev pub decreases-loop-depth : goal.decreases-loop-depth
decreases-loop-depth l = 2 * l.left + l.depth
