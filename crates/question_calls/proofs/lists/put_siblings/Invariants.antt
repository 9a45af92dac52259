-- `lists::put_siblings` meets its contract: the siblings passed are written. Assumes nothing.
use mathlib.Core.List.{List}
use Prim.Native.Nat.{ℕ}
use Rattle.state_array.specs.View.{id_in, view}
use Rattle.questions.specs.Links.{siblings}
use Rattle.ids.specs.declared.FullNodeId.{FullNodeId}
use Rattle.questions.specs.declared.Side.{Side}
use Rattle.question_calls.proofs.lists.Lists.{CollectedTo}
use Rattle.question_calls.proofs.lists.put_siblings.Given as goal

-- the list
abbrev pub aside : List ℕ → Side → ℕ → List FullNodeId
aside state side i = siblings side (view state).forest (id_in state i)

abbrev pub invariant-loop-k : goal.invariant-loop-k
invariant-loop-k l = CollectedTo (aside l.state l.side l.i) l.initial.out l.k l.out
