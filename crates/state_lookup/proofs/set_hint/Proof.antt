-- `state_lookup::set_hint` meets its contract: a hint that fits is written. Assumes nothing.
use native.Mathlib.Omega.{arith}
use borrow.Author.Rules.{rules}
use borrow.Author.Tests.{lt-ltb, le-ltb}
use Rattle.base.specs.Tests.{◌and◌}
use Rattle.state_lookup.specs.Lookup.{with_hint}
use Rattle.state_lookup.proofs.set_hint.Statement.{statement}
use Rattle.state_lookup.proofs.set_hint.Tie as tie

pub set_hint_spec : {M : Type 1} → statement M
unfolding with_hint ◌and◌
set_hint_spec =
    tie.close
    (tie.spec
    (λ c. search (rules, le-ltb))
    (λ c. search (rules, lt-ltb, le-ltb))
    (λ c. omega arith)
    (λ c. search rules)
    (λ c. omega arith)
    (λ c. search rules)
    (λ c. search (rules, lt-ltb)))
