-- `reasons_shape::reached::none_leads` meets its contract: no node passed leads to the id. Assumes nothing.
use mathlib.Core.Bool.{not}
use Rattle.base.proofs.Scan.{Passed}
use Rattle.reasons_shape.specs.Reached.{leads_to}
use Rattle.reasons_shape.proofs.reached.none_leads.Given as goal

abbrev pub invariant-loop-p : goal.invariant-loop-p
invariant-loop-p l = Passed (λ k. not (leads_to l.state l.marks l.x k)) l.n l.p
