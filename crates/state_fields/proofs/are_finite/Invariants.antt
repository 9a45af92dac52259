-- `state_fields::are_finite` meets its contract: each word passed is a finite number's pattern. Assumes nothing.
use Prim.Native.Nat.{◌+◌}
use Rattle.base.specs.Floats.{is_finite}
use Rattle.base.proofs.Scan.{Passed}
use Rattle.state_array.specs.View.{float_in}
use Rattle.state_fields.proofs.are_finite.Given as goal

abbrev pub invariant-loop-k : goal.invariant-loop-k
invariant-loop-k l = Passed (λ j. is_finite (float_in l.state l.i (l.from + j))) l.n l.k
