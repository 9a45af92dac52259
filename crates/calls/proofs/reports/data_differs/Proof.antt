-- `reports::data_differs` meets its contract: by the turn of the node, and the mark of the node listed there. Assumes nothing.
use Rattle.calls.proofs.notes.Noted.{differ_unlisted, differ_listed}
use borrow.Author.Rules.{rules}
use Rattle.calls.proofs.reports.data_differs.Statement.{statement}
use Rattle.calls.proofs.reports.data_differs.Tie as tie

pub data_differs_spec : {M : Type 1} → statement M
data_differs_spec =
    tie.close
    (tie.spec
    (λ c. search rules) (λ c. search rules) (λ c. search rules)
    (λ c. search differ_unlisted)
    (λ c. search rules) (λ c. search rules) (λ c. search rules)
    (λ c. search differ_listed))
