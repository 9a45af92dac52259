-- `reasons_shape::focus` meets its contract: one test. Assumes nothing.
use Rattle.reasons_shape.proofs.Chain.{if_kept, if_broken}
use Rattle.reasons_why.specs.Why.{why_broken}
use borrow.Author.Rules.{rules}
use Rattle.reasons_shape.proofs.focus.Statement.{statement}
use Rattle.reasons_shape.proofs.focus.Tie as tie

pub focus_spec : {M : Type 1} → statement M
unfolding why_broken
focus_spec =
    tie.close
    (tie.spec
    (λ c κs. search rules)
    (λ c κs. search rules)
    (λ c. search (rules, if_kept))
    (λ c κs. search rules)
    (λ c. search (rules, if_broken)))
