-- `state_lookup::ordered` meets its contract: each pair passed is in order. Assumes nothing.
use Prim.Native.Nat.{◌+◌, ◌-◌}
use Rattle.base.proofs.Scan.{Passed}
use Rattle.ids.specs.Ids.{before}
use Rattle.state_array.specs.View.{id_in}
use Rattle.state_lookup.proofs.ordered.Given as goal

abbrev pub invariant-loop-i : goal.invariant-loop-i
invariant-loop-i l = Passed (λ k. before (id_in l.state k) (id_in l.state (k + 1))) (l.n - 1) (l.i - 1)
