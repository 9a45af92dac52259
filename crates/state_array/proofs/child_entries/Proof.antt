-- `state_array::child_entries` meets its contract: the words from the first child entry on. Assumes nothing.
use native.Mathlib.Omega.{arith}
use Rattle.state_array.proofs.Put.{entries_lent}
use borrow.Author.Rules.{rules}
use Rattle.state_array.proofs.child_entries.Statement.{statement}
use Rattle.state_array.proofs.child_entries.Tie as tie

pub child_entries_spec : {M : Type 1} → statement M
child_entries_spec =
    tie.close (tie.spec (λ c. search rules) (λ c. search rules) (λ c. search rules) (λ c. entries_lent c.before.before.args.state.now (omega arith)))
