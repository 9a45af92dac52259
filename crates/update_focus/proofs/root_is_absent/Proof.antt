-- `update_focus::root_is_absent` meets its contract: a law for each way out. Assumes nothing.
use Rattle.update_focus.proofs.Numbers.{root_unborn, root_searched}
use borrow.Author.Rules.{rules}
use Rattle.update_focus.proofs.root_is_absent.Statement.{statement}
use Rattle.update_focus.proofs.root_is_absent.Tie as tie

pub root_is_absent_spec : {M : Type 1} → statement M
root_is_absent_spec =
    tie.close
    (tie.spec
    (λ c κs. search rules)
    (λ c. search rules) (λ c. search rules)
    (λ c. search root_unborn)
    (λ c κs. search rules) (λ c κs. search rules)
    (λ c. search root_searched))
