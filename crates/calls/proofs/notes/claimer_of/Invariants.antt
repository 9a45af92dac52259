-- `notes::claimer_of` meets its contract: no listed node passed claims the tree. Assumes nothing.
use mathlib.Core.Bool.{false}
use mathlib.Core.Path.{◌≡◌}
use Prim.Native.Nat.{ℕ, ◌+◌, ◌<◌}
use lib.Dec.{eqb}
use lib.ListN.{get_or}
use Rattle.base.specs.Tests.{◌and◌}
use Rattle.ids.specs.Ids.{same_tree}
use Rattle.record.specs.Parse.{batch_of}
use Rattle.record_reader.specs.Reader.{listed_at}
use Rattle.calls.specs.Layout.{CLAIMS}
use Rattle.calls.proofs.notes.claimer_of.Given as goal

abbrev pub invariant-loop-i : goal.invariant-loop-i
invariant-loop-i l = (m : ℕ) → m < l.i → (eqb (get_or l.notes (CLAIMS + m) 0) 1 and same_tree (listed_at (batch_of l.batch) m).body.graft l.t) ≡ false
