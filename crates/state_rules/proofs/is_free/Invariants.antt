-- `state_rules::is_free` meets its contract: each node passed does not graft the tree. Assumes nothing.
use mathlib.Core.Bool.{not}
use Rattle.base.proofs.Scan.{Passed}
use Rattle.state_rules.specs.Parts.{grafts_tree}
use Rattle.state_rules.proofs.is_free.Given as goal

abbrev pub invariant-loop-i : goal.invariant-loop-i
invariant-loop-i l = Passed (λ k. not (grafts_tree l.state l.t k)) l.n l.i
