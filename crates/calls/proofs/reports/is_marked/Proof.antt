-- `reports::is_marked` meets its contract: by the word of the node's slot. Assumes nothing.
use Rattle.state_lookup.proofs.Order.{slot_of_place}
use Rattle.calls.proofs.reports.Slice.{picked_absent, picked_there}
use borrow.Author.Rules.{rules}
use Rattle.calls.proofs.reports.is_marked.Statement.{statement}
use Rattle.calls.proofs.reports.is_marked.Tie as tie

pub is_marked_spec : {M : Type 1} → statement M
is_marked_spec =
    tie.close
    (tie.spec
    (λ c κs. search rules) (λ c κs. search rules)
    (λ c. search (picked_absent, slot_of_place))
    (λ c. search rules) (λ c. search rules) (λ c. search rules)
    (λ c κs. search rules)
    (λ c. search (picked_there, slot_of_place)))
