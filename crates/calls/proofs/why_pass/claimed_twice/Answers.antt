-- `why_pass::claimed_twice` meets its contract. Assumes nothing.
use Rattle.reasons_why.specs.Why.{why_of}
use Rattle.calls.proofs.why_pass.claimed_twice.Goals as goal

pub returns : goal.returns
unfolding why_of
returns c = rw (c.listed_id-y.ensures, c.listed_id-x.ensures, c.graft-tree.ensures)
