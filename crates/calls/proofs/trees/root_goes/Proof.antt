-- `trees::root_goes` meets its contract: by the root's slot. Assumes nothing.
use Rattle.state_lookup.proofs.Order.{slot_of_place}
use Rattle.calls.proofs.trees.Entries.{absent_stays, mark_tells}
use borrow.Author.Rules.{rules}
use Rattle.calls.proofs.trees.root_goes.Statement.{statement}
use Rattle.calls.proofs.trees.root_goes.Tie as tie

pub root_goes_spec : {M : Type 1} → statement M
root_goes_spec =
    tie.close
    (tie.spec
    (λ c. search rules)
    (λ c κs. search rules) (λ c κs. search rules)
    (λ c. search (absent_stays, slot_of_place))
    (λ c. search rules) (λ c. search rules) (λ c. search rules)
    (λ c. search (mark_tells, slot_of_place)))
