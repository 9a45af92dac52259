-- `links::canonical` meets its contract: two ways out. Assumes nothing.
use Rattle.calls.proofs.links.Elsewhere.{no_link, a_link}
use borrow.Author.Rules.{rules}
use Rattle.calls.proofs.links.canonical.Statement.{statement}
use Rattle.calls.proofs.links.canonical.Tie as tie

pub canonical_spec : {M : Type 1} → statement M
canonical_spec = tie.close (tie.spec (λ c κs. search rules) (λ c. search no_link) (λ c κs. search rules) (λ c. search a_link))
