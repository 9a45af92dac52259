-- `update_bodies::same_run` meets its contract: the words passed are the same. Assumes nothing.
use mathlib.Core.Bool.{true}
use mathlib.Core.Path.{◌≡◌}
use Prim.Native.Nat.{◌+◌}
use lib.Dec.{eqb}
use lib.ListN.{get_or}
use Rattle.base.specs.Bytes.{all_below}
use Rattle.update_bodies.proofs.same_run.Given as goal

abbrev pub invariant-loop-k : goal.invariant-loop-k
invariant-loop-k l = all_below l.k (λ j. eqb (get_or l.a (l.from + j) l.past) (get_or l.b (l.to + j) l.past)) ≡ true
