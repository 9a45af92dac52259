-- `plan::keep_slot` meets its contract. Assumes nothing.
use Rattle.calls.proofs.plan.Planned.{plan_goes, plan_stays}
use borrow.Author.Rules.{rules}
use Rattle.calls.proofs.plan.keep_slot.Statement.{statement}
use Rattle.calls.proofs.plan.keep_slot.Tie as tie

pub keep_slot_spec : {M : Type 1} → statement M
keep_slot_spec =
    tie.close
    (tie.spec
    (λ c. search rules) (λ c. search rules) (λ c. search rules)
    (λ c. search plan_goes)
    (λ c. search rules) (λ c. search rules) (λ c. search rules) (λ c. search rules)
    (λ c. search plan_stays))
