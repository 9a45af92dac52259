-- `why_pass::of_nodes` meets its contract. Assumes nothing.
use mathlib.Core.Path.{refl}
use Rattle.calls.specs.WhyPass.{plain_nodes}
use Rattle.calls.proofs.why_pass.of_nodes.Statement.{statement}
use Rattle.calls.proofs.why_pass.of_nodes.Tie as tie

pub of_nodes_spec : {M : Type 1} → statement M
of_nodes_spec = tie.close (tie.spec (λ c. unfold plain_nodes in refl))
