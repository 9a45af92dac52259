-- `replay_frame::decode`: the places stay within the coded bytes and the frame.
use Rattle.std.proofs.Common.{◌-◌, ◌+◌, ◌≤◌, length}
use Rattle.replay_frame.proofs.decode.Given as goal

abbrev pub invariant-loop-i : goal.invariant-loop-i
invariant-loop-i l = (l.i ≤ length l.coded + 1) × (l.at ≤ 114687)

abbrev pub decreases-loop-i : goal.decreases-loop-i
decreases-loop-i l = length l.coded - l.i
