-- `writing::child_count` meets its contract: a slot's node or a listed one. Assumes nothing.
use Rattle.calls.proofs.writing.Kids.{slot_count, listed_count}
use borrow.Author.Rules.{rules}
use Rattle.calls.proofs.writing.child_count.Statement.{statement}
use Rattle.calls.proofs.writing.child_count.Tie as tie

pub child_count_spec : {M : Type 1} → statement M
child_count_spec = tie.close (tie.spec (λ c κs. search rules) (λ c. search slot_count) (λ c κs. search rules) (λ c. search listed_count))
