-- `state_sound::is_new` meets its contract: a tree without a mark is grafted by none. Assumes nothing.
use borrow.Author.Rules.{rules}
use Rattle.state_rules.proofs.Grafts.{unmarked}
use Rattle.state_sound.proofs.is_new.Statement.{statement}
use Rattle.state_sound.proofs.is_new.Tie as tie

pub is_new_spec : {M : Type 1} → statement M
is_new_spec =
    tie.close
    (tie.spec
    (λ c. search rules)
    (λ c. search (rules, unmarked))
    (λ c κs. search rules)
    (λ c. search rules))
