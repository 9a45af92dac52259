-- `state_rules::is_bare` meets its contract: one test for each part. Assumes nothing.
use Rattle.state_rules.specs.Parts.{bare_in}
use borrow.Author.Rules.{rules}
use Rattle.state_rules.proofs.is_bare.Statement.{statement}
use Rattle.state_rules.proofs.is_bare.Tie as tie

returns : tie.Need-returns
unfolding bare_in
returns c = cc

pub is_bare_spec : {M : Type 1} → statement M
is_bare_spec = tie.close (tie.spec (λ c κs. search rules) (λ c κs. search rules) returns)
