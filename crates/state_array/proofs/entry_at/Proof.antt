-- `state_array::entry_at` meets its contract: past the last tree stands 0. Assumes nothing.
use borrow.Author.Tests.{lt-ltb, le-ltb}
use Rattle.base.specs.Tests.{◌and◌}
use Rattle.state_array.specs.Layout.{entry}
use borrow.Author.Rules.{rules}
use Rattle.state_array.proofs.entry_at.Statement.{statement}
use Rattle.state_array.proofs.entry_at.Tie as tie

pub entry_at_spec : {M : Type 1} → statement M
unfolding entry ◌and◌
entry_at_spec =
    tie.close
    (tie.spec
    (λ c. search rules)
    (λ c. search rules)
    (λ c. search rules)
    (λ c. search rules)
    (λ c. search rules)
    (λ c. search (rules, lt-ltb, le-ltb))
    (λ c. search (rules, lt-ltb, le-ltb)))
