-- `explain::plain` meets its contract. Assumes nothing.
use borrow.Author.Rules.{rules}
use Rattle.calls.proofs.explain.plain.Statement.{statement}
use Rattle.calls.proofs.explain.plain.Tie as tie
use Rattle.calls.proofs.explain.Parts.{plain_is}

pub plain_spec : {M : Type 1} → statement M
plain_spec = tie.close (tie.spec (λ c κs. search rules) (λ c κs. search rules) (λ c κs. search rules) (λ c. search rules) (λ c. search rules) (λ c. search plain_is))
