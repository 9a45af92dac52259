-- `why_pass::without_place` meets its contract. Assumes nothing.
use Rattle.reasons_why.specs.Why.{why_of}
use Rattle.calls.proofs.why_pass.without_place.Goals as goal

pub returns : goal.returns
unfolding why_of
returns c = rw c.listed_id-x.ensures
