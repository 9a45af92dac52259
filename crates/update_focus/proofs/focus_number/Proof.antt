-- `update_focus::focus_number` meets its contract: a law for each way out. Assumes nothing.
use Rattle.update_focus.proofs.Numbers.{row_unfocused, row_rootless, row_lost, rows_focused}
use borrow.Author.Rules.{rules}
use Rattle.update_focus.proofs.focus_number.Statement.{statement}
use Rattle.update_focus.proofs.focus_number.Tie as tie

pub focus_number_spec : {M : Type 1} → statement M
focus_number_spec =
    tie.close
    (tie.spec
    (λ c κs. search rules)
    (λ c. search rules) (λ c. search rules)
    (λ c. search row_unfocused)
    (λ c κs. search rules)
    (λ c. search row_rootless)
    (λ c κs. search rules) (λ c κs. search rules)
    (λ c. search row_lost)
    (λ c. search rows_focused))
