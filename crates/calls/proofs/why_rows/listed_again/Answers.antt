-- `why_rows::listed_again` meets its contract. Assumes nothing.
use Rattle.calls.proofs.why_rows.Again.{again_none, again_some}
use Rattle.calls.proofs.why_rows.listed_again.Goals as goal

pub returns-in_default : goal.returns-in_default
returns-in_default c = search again_none

pub returns : goal.returns
returns c = search again_some
