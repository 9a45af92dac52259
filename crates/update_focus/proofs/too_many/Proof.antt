-- `update_focus::too_many` meets its contract. Assumes nothing.
use borrow.Author.Rules.{rules}
use Rattle.update_focus.proofs.Focus.{why_few, why_many}
use Rattle.update_focus.proofs.too_many.Statement.{statement}
use Rattle.update_focus.proofs.too_many.Tie as tie

pub too_many_spec : {M : Type 1} → statement M
too_many_spec =
    tie.close
    (tie.spec
    (λ c κs. search rules) (λ c κs. search rules)
    (λ c. search (rules, why_few))
    (λ c. search (rules, why_many)))
