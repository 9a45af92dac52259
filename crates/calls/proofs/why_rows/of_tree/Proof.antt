-- `why_rows::of_tree` meets its contract. Assumes nothing.
use mathlib.Core.Path.{refl}
use Rattle.calls.proofs.why_rows.of_tree.Statement.{statement}
use Rattle.calls.proofs.why_rows.of_tree.Tie as tie

returns : tie.Need-returns
returns c = refl

pub of_tree_spec : {M : Type 1} → statement M
of_tree_spec = tie.close (tie.spec returns)
