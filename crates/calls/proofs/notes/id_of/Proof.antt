-- `notes::id_of` meets its contract. Assumes nothing.
use borrow.Author.Rules.{rules}
use Rattle.calls.proofs.notes.Noted.{noted_slot, noted_listed}
use Rattle.calls.proofs.notes.id_of.Statement.{statement}
use Rattle.calls.proofs.notes.id_of.Tie as tie

pub id_of_spec : {M : Type 1} → statement M
id_of_spec =
    tie.close (tie.spec (λ c κs. search rules) (λ c. search noted_slot) (λ c. search rules) (λ c. search noted_listed))
