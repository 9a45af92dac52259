-- `pass::nowhere` meets its contract: none of the children passed is nowhere. Assumes nothing.
use mathlib.Core.Bool.{false}
use mathlib.Core.Path.{◌≡◌}
use Prim.Native.Nat.{ℕ, ◌<◌}
use lib.ListN.{get_or}
use Rattle.record.specs.Batch.{named_ids}
use Rattle.record_reader.specs.Reader.{no_node}
use Rattle.update.specs.Numbers.{nowhere}
use Rattle.calls.specs.Setting.{asked, forest}
use Rattle.calls.proofs.pass.nowhere.Given as goal

abbrev pub invariant-loop-j : goal.invariant-loop-j
invariant-loop-j l = (m : ℕ) → m < l.j → nowhere (forest l.state) (asked l.batch l.scope) (get_or (named_ids (asked l.batch l.scope).nodes) m no_node) ≡ false
