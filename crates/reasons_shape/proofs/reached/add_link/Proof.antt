-- `reasons_shape::reached::add_link` meets its contract: the first link, or one of several. Assumes nothing.
use Rattle.reasons_shape.proofs.reached.Meeting.{link_first, link_later}
use Rattle.reasons_shape.proofs.reached.add_link.Statement.{statement}
use Rattle.reasons_shape.proofs.reached.add_link.Tie as tie

pub add_link_spec : {M : Type 1} → statement M
add_link_spec = tie.close (tie.spec (λ c ls t. search link_first) (λ c ls t. search link_later))
