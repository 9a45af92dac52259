-- `state_fields::are_zero` meets its contract: each word passed is 0. Assumes nothing.
use Prim.Native.Nat.{◌+◌}
use Rattle.base.specs.Floats.{zero_bytes}
use Rattle.base.proofs.Scan.{Passed}
use Rattle.state_array.specs.View.{float_in}
use Rattle.state_fields.proofs.are_zero.Given as goal

abbrev pub invariant-loop-k : goal.invariant-loop-k
invariant-loop-k l = Passed (λ j. zero_bytes (float_in l.state l.i (l.from + j))) l.n l.k
