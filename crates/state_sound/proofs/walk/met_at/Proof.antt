-- `state_sound::walk::met_at` meets its contract: a law for each way out. Assumes nothing.
use borrow.Author.Rules.{rules}
use Rattle.state_sound.proofs.Walks.{met_absent, met_otherwise, met_there}
use Rattle.state_sound.proofs.walk.met_at.Statement.{statement}
use Rattle.state_sound.proofs.walk.met_at.Tie as tie

pub met_at_spec : {M : Type 1} → statement M
met_at_spec =
    tie.close
    (tie.spec
    (λ c κs. search rules)
    (λ c κs. search rules)
    (λ c. search (rules, met_absent))
    (λ c κs. search rules)
    (λ c κs. search rules)
    (λ c κs. search rules)
    (λ c. search (rules, met_there))
    (λ c. search (rules, met_otherwise)))
