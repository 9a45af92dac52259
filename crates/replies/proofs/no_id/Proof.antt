-- `replies::no_id` meets its contract. Assumes nothing.
use mathlib.Core.Path.{refl}
use Rattle.replies.specs.Replies.{plain_id}
use Rattle.replies.proofs.no_id.Statement.{statement}
use Rattle.replies.proofs.no_id.Tie as tie

returns : tie.Need-returns
unfolding plain_id
returns c = refl

pub no_id_spec : {M : Type 1} → statement M
no_id_spec = tie.close (tie.spec returns)
