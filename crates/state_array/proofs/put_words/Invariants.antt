-- `state_array::put_words` meets its contract. The words before k are in their places. Assumes nothing.
use mathlib.Core.Path.{◌≡◌}
use Prim.Native.Nat.{◌+◌}
use Rattle.state_array.specs.Layout.{place}
use Rattle.state_array.specs.Put.{puts}
use Rattle.state_array.proofs.put_words.Given as goal

abbrev pub invariant-loop-k : goal.invariant-loop-k
invariant-loop-k l = l.state ≡ puts (λ j. place (l.f + j) l.i) l.words l.k l.initial.state
