-- `state_array::word_at` meets its contract: past the last field and the last slot stands 0. Assumes nothing.
use borrow.Author.Tests.{lt-ltb, le-ltb}
use Rattle.base.specs.Tests.{◌and◌}
use Rattle.state_array.specs.Layout.{word}
use borrow.Author.Rules.{rules}
use Rattle.state_array.proofs.word_at.Statement.{statement}
use Rattle.state_array.proofs.word_at.Tie as tie

pub word_at_spec : {M : Type 1} → statement M
unfolding word ◌and◌
word_at_spec =
    tie.close
    (tie.spec
    (λ c. search (rules, le-ltb))
    (λ c. search rules)
    (λ c. search rules)
    (λ c. search rules)
    (λ c. search rules)
    (λ c. search rules)
    (λ c. search (rules, lt-ltb, le-ltb))
    (λ c. search (rules, lt-ltb, le-ltb)))
